-- A statement that is passed over: the flow so far is the flow through it too.
use Rattle.std.proofs.Common.{◌≡◌, ℕ, ◌+◌, ◌<◌, List, [], ◌∷◌, ◌++◌, get_or, length, refl, sym, ap, subst, ◌∙◌}
use Rattle.std.specs.Prelude.{Bool, true, false, ◌||◌, codes, if◌then◌else◌, None, Some}
use Rattle.std.specs.List.{fold}
use Rattle.std.proofs.Math.Bool.{or-false}
use Rattle.std.proofs.lemmas.List.{append-nil, at_drop_more}
use Rattle.meson_lex.specs.declared.kinds.Span.{Span}
use Rattle.meson_syntax.specs.declared.tree.Stmt.{Stmt}
use Rattle.meson_syntax.specs.View.{stmt_view, text_at}
use Rattle.meson_syntax.proofs.paths.Every.{Every}
use Rattle.meson_edit.specs.Standing.{statement_span}
use Rattle.meson_calls.specs.declared.call.CallRef.{CallRef}
use Rattle.meson_calls.specs.Calls.{Call, calls_function, first_argument}
use Rattle.meson_calls.specs.Project.{child, place, place_at, placed}
use Rattle.meson_following.specs.declared.effects.Effect.TheVariants.{Leaves, Nothing, Sets, Stops, Unsets}
use Rattle.meson_following.specs.declared.flows.Flow as code
use Rattle.meson_following.specs.declared.walk.Aim.{Aim}
use Rattle.meson_following.specs.declared.walk.Aim.TheVariants as aim
use Rattle.meson_following.specs.declared.walk.Trail.{Trail}
use Rattle.meson_following.specs.declared.walk.Walk.{Walk}
use Rattle.meson_following.specs.CodeMakers.{known_view}
use Rattle.meson_following.specs.Effects.{by_fit, entering_by}
use Rattle.meson_following.specs.Flows.{Arrival, Flow, both_flow, joined_if}
use Rattle.meson_following.specs.Makers.{Known, joined}
use Rattle.meson_following.specs.Names.{fit, named_by}
use Rattle.meson_following.specs.Passing.{MayPass, asks_in}
use Rattle.meson_following.specs.Reads.{has_one_of, read_places}
use Rattle.meson_following.specs.Walks.{Found, MayWalk, call_effect, file_flow, found_view, here, met_by, met_unless, project_of, statement_flow, walked_file}
use Rattle.meson_following.proofs.MuteParts.{differs, done_in, itself_in, setter_in, unsetter_in}
use Rattle.meson_following.proofs.MuteStatements.{stmt_mute}
use Rattle.meson_following.proofs.MuteWords.{IsMute, mute_text}
use Rattle.meson_following.proofs.PassedFlows.{IsIdle, IsMissed, statement_idle}
use Rattle.meson_following.proofs.Steps.{met_both, moved}
use Rattle.meson_following.proofs.Turns.{BlockTurn, statements_flow}

-- joined with a way that does not come here
joined_nothing : (m : Known Span) → joined m None ≡ m
joined_nothing None = refl
joined_nothing (Some m) = refl

-- ---- what is met

module _ (x : List ℕ) where
  met_nothing : (a : Aim) (q : CallRef) → asks_in a q ≡ false → (f : Found) (all : List (Arrival Span)) → Every (IsMissed x q) all → fold (met_by x a) f all ≡ f
  met_nothing a q away f [] missed = refl
  met_nothing (aim.Place c) q away f (b ∷ all) missed =
      ap (λ g. fold (met_by x (aim.Place c)) g all) (ap (λ i. record { known = joined_if i f.known b.known; reads = f.reads }) (missed.0.0 (place_at c) away))
      ∙ met_nothing (aim.Place c) q away f all missed.1
  met_nothing (aim.Makers ms) q away f (b ∷ all) missed =
      ap (λ g. fold (met_by x (aim.Makers ms)) g all)
      (ap (λ rs. record { known = f.known; reads = f.reads ++ rs }) (none (has_one_of ms.now b.known) (read_places x b.at_expression) missed.0.1)
      ∙ ap (λ rs. record { known = f.known; reads = rs }) (append-nil f.reads))
      ∙ met_nothing (aim.Makers ms) q away f all missed.1
    where
      none : (i : Bool) (rs : List CallRef) → rs ≡ [] → (if i then rs else []) ≡ []
      none true rs is = is
      none false rs is = refl

module _ (w : Walk) where
  abbrev x : List ℕ
  x = w.question.variable.now

  -- a call of another function does nothing
  harmless : (q : CallRef) (c : Call Span) → IsMute x c.function → calls_function (codes "error") c ≡ false → call_effect w (placed q c) ≡ Nothing
  harmless q c mute off =
      let enters = if calls_function (codes "subdir") c then entering_by (project_of w.question) (walked_file w) (placed q c) (first_argument c) else Nothing in
      let leaves = if calls_function (codes "subdir_done") c then Leaves else enters in
      let stops = if calls_function (codes "error") c then Stops else leaves in
      let unsets = if calls_function (codes "unset_variable") c then by_fit Unsets (fit x (named_by c)) else stops in
      ap (λ b. if b then by_fit Sets (fit x (named_by c)) else unsets) (differs _ c.function (codes "set_variable") mute.setter setter_in)
      ∙ ap (λ b. if b then by_fit Unsets (fit x (named_by c)) else stops) (differs _ c.function (codes "unset_variable") mute.setter unsetter_in)
      ∙ ap (λ b. if b then Stops else leaves) off
      ∙ ap (λ b. if b then Leaves else enters) (differs _ c.function (codes "subdir_done") mute.folder done_in)
      ∙ ap (λ b. if b then entering_by (project_of w.question) (walked_file w) (placed q c) (first_argument c) else Nothing) (differs _ c.function (codes "subdir") mute.folder (itself_in _))

  module _ (start middle now : Trail) (flow : code.Flow) (k : Known Span) (stmts : List Stmt) (i : ℕ) (d : Stmt) (turn : BlockTurn w start middle flow k stmts i) where
    abbrev stmt : Stmt
    stmt = get_or stmts i d

    abbrev q : CallRef
    q = child (here w start) i

    abbrev passed : Flow Span
    passed = statement_flow w q (stmt_view w.source.now stmt) turn.meant.now

    -- the statement may be passed over, before which this is known
    module _ (walks : MayWalk w) (same : stmts ≡ w.tree.now.block.statements) (lt : i < length stmts)
        (may : MayPass w q (stmt_view w.source.now stmt) turn.meant.now) where
      idle : IsIdle x (call_effect w) (file_flow w.question w.left) harmless turn.meant.now may.kept q passed
      idle =
          statement_idle x (call_effect w) (file_flow w.question w.left) harmless turn.meant.now may.kept q (stmt_view w.source.now stmt)
          (stmt_mute w.source.now x w.tree.now stmts i d walks.spanned same lt (mute_text x (text_at w.source.now (statement_span (stmt_view w.source.now stmt))) may.words))
          may.calm

      nothing_met : (quiet : Bool) (f : Found) → f ≡ met_unless quiet w.question f passed.arrivals
      nothing_met true f = refl
      nothing_met false f = sym (met_nothing x w.question.aim q may.away f passed.arrivals idle.arrivals)

      passed_turn : now.path.items ≡ middle.path.items → found_view now.found ≡ found_view middle.found → BlockTurn w start now flow k stmts (i + 1)
      passed_turn path found =
          record {
            meant = both_flow turn.meant passed;
            walks = record {
              back = path ∙ turn.walks.back;
              flows = record {
                now = turn.walks.flows.now ∙ sym idle.now;
                turned = turn.walks.flows.turned ∙ sym (ap (joined turn.meant.turned) idle.turned ∙ joined_nothing turn.meant.turned);
                ended = turn.walks.flows.ended ∙ sym (ap (joined turn.meant.ended) idle.ended ∙ joined_nothing turn.meant.ended);
                leaves = turn.walks.flows.leaves ∙ sym (ap (λ b. turn.meant.leaves || b) idle.leaves ∙ or-false turn.meant.leaves);
                found = met_both w.quiet w.question (found_view start.found) (found_view middle.found) (found_view now.found) turn.meant.arrivals passed.arrivals turn.walks.flows.found
                    (found ∙ nothing_met w.quiet (found_view middle.found));
              };
            };
            rest = sym (at_drop_more (λ ss. statements_flow w (here w start) i ss turn.meant) stmts i d lt) ∙ turn.rest;
          }

  -- the same by what the code knows
  pub passed_over : (start middle now : Trail) (flow : code.Flow) (k : Known Span) (stmts : List Stmt) (i : ℕ) (d : Stmt) (turn : BlockTurn w start middle flow k stmts i)
      → MayWalk w → stmts ≡ w.tree.now.block.statements → i < length stmts
      → MayPass w (child (here w middle) i) (stmt_view w.source.now (get_or stmts i d)) (known_view flow.now)
      → now.path.items ≡ middle.path.items → found_view now.found ≡ found_view middle.found → BlockTurn w start now flow k stmts (i + 1)
  passed_over start middle now flow k stmts i d turn walks same lt may =
      let s = stmt_view w.source.now (get_or stmts i d) in
      passed_turn start middle now flow k stmts i d turn walks same lt
      (subst (λ m. MayPass w (child (here w start) i) s m) turn.walks.flows.now
      (subst (λ steps. MayPass w (child (place w.file steps) i) s (known_view flow.now)) turn.walks.back may))

  -- the same turn where the walk is at the same place
  pub still_here : (start middle now : Trail) (flow : code.Flow) (k : Known Span) (stmts : List Stmt) (i : ℕ) → BlockTurn w start middle flow k stmts i
      → now.path.items ≡ middle.path.items → found_view now.found ≡ found_view middle.found → BlockTurn w start now flow k stmts i
  still_here start middle now flow k stmts i turn path found =
      record { meant = turn.meant; walks = record { back = path ∙ turn.walks.back; flows = moved turn.walks.flows refl (sym found) refl }; rest = turn.rest }
