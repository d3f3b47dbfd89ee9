-- The turns of the walk through the statements of a block, and through the branches of a selection.
use Rattle.std.proofs.Common.{◌≡◌, ℕ, ◌+◌, ◌*◌, ◌<◌, ◌≤◌, List, [], length, drop, get_or, sym, ap, ap₂, subst, ◌∙◌, arith}
use Rattle.std.specs.Prelude.{Bool, true, Option}
use Rattle.std.proofs.lemmas.List.{at_drop_all, at_drop_more}
use Rattle.meson_calls.specs.declared.call.CallRef.{CallRef}
use Rattle.meson_calls.specs.Project.{child, place}
use Rattle.meson_calls.specs.Parts.{branches_child_count}
use Rattle.meson_calls.proofs.StatementParts.{branch_block, branch_condition, two_each}
use Rattle.meson_lex.specs.declared.kinds.Span.{Span}
use Rattle.meson_syntax.specs.declared.tree.Block as rust_block
use Rattle.meson_syntax.specs.declared.tree.Branch.{Branch}
use Rattle.meson_syntax.specs.declared.tree.Stmt.{Stmt}
use Rattle.meson_syntax.specs.Tree.{Block, Expression, Otherwise, branches_of, statements_of}
use Rattle.meson_syntax.specs.View.{block_view, branch_view, branches_view, expr_view, stmt_view, stmts_view}
use Rattle.meson_following.specs.declared.flows.Chosen as code_chosen
use Rattle.meson_following.specs.declared.flows.Flow as code
use Rattle.meson_following.specs.declared.makers.Made as code_made
use Rattle.meson_following.specs.declared.walk.Trail.{Trail}
use Rattle.meson_following.specs.declared.walk.Walk.{Walk}
use Rattle.meson_following.specs.CodeFlows.{chosen_view, flow_view}
use Rattle.meson_following.specs.CodeMakers.{known_view}
use Rattle.meson_following.specs.Flows.{Choice, Flow, around, both_flow, either_flow, flow_statements, going_on, known_if, looped, no_branch, with_block, with_condition}
use Rattle.meson_following.specs.Makers.{Known, joined}
use Rattle.meson_following.specs.Walks.{Chooses, Walks, asking, block_flow, branch_chosen, branches_chosen, call_effect, each_flow, entered_flow, expression_flow, file_flow, found_view, here, loop_flow, met_unless, otherwise_flow, selection_flow, statement_flow, turn_flow}
use Rattle.meson_following.proofs.ReadParts.{block_is}
use Rattle.meson_following.proofs.Walked.{block_walked, both_walked, condition_walked, either_walked}

module _ (w : Walk) where
  abbrev pub statements_flow : CallRef → ℕ → List Stmt → Flow Span → Flow Span
  statements_flow q n stmts = flow_statements w.question.variable.now (call_effect w) (file_flow w.question w.left) q n (statements_of (stmts_view w.source.now stmts))

  abbrev pub branches_flow : CallRef → ℕ → List Branch → Choice Span → Choice Span
  branches_flow q n branches = branches_chosen w q n (branches_of (branches_view w.source.now branches))

  module _ (start now : Trail) where
    -- what was meant by the statements so far; those that are left lead from it to what is meant by all
    pub record BlockTurn (flow : code.Flow) (k : Known Span) (stmts : List Stmt) (i : ℕ) : Type 0 where
      pub meant : Flow Span
      pub walks : Walks w start now flow meant
      pub rest : statements_flow (here w start) i (drop i stmts) meant ≡ statements_flow (here w start) 0 stmts (going_on k)

    -- the same of the branches
    pub record SelectionTurn (chosen : code_chosen.Chosen) (k : Known Span) (branches : List Branch) (i : ℕ) : Type 0 where
      pub meant : Choice Span
      pub chooses : Chooses w start now chosen meant
      pub rest : branches_flow (here w start) (2 * i) (drop i branches) meant ≡ branches_flow (here w start) 0 branches (no_branch k)

    -- the same of files that may be entered
    pub record EachTurn (flow : code.Flow) (k : Known Span) (files : List ℕ) (i : ℕ) : Type 0 where
      pub meant : Flow Span
      pub walks : Walks w start now flow meant
      pub rest : each_flow w (drop i files) meant ≡ each_flow w files (going_on k)

module _ (w : Walk) (start middle now : Trail) where
  -- ---- a block

  module _ (flow next after : code.Flow) (k : Known Span) (stmts : List Stmt) (i : ℕ) (d : Stmt) (turn : BlockTurn w start middle flow k stmts i) where
    abbrev stmt_flow : Flow Span
    stmt_flow = statement_flow w (child (here w start) i) (stmt_view w.source.now (get_or stmts i d)) turn.meant.now

    pub block_turn : i < length stmts
        → Walks w middle now next (statement_flow w (child (here w middle) i) (stmt_view w.source.now (get_or stmts i d)) (known_view flow.now))
        → flow_view after ≡ both_flow (flow_view flow) (flow_view next) → BlockTurn w start now after k stmts (i + 1)
    block_turn lt walked joins =
        let there : place w.file middle.path.items ≡ place w.file start.path.items = ap (place w.file) turn.walks.back in
        let moved = subst (λ q. Walks w middle now next (statement_flow w (child q i) (stmt_view w.source.now (get_or stmts i d)) (known_view flow.now))) there walked in
        let second = subst (λ m. Walks w middle now next (statement_flow w (child (here w start) i) (stmt_view w.source.now (get_or stmts i d)) m)) turn.walks.flows.now moved in
        record {
          meant = both_flow turn.meant stmt_flow;
          walks = both_walked w start middle now flow next after turn.meant stmt_flow turn.walks second joins;
          rest = sym (at_drop_more (λ ss. statements_flow w (here w start) i ss turn.meant) stmts i d lt) ∙ turn.rest;
        }

  -- ---- files that may be entered

  module _ (flow next after : code.Flow) (k : Known Span) (files : List ℕ) (i d : ℕ) (turn : EachTurn w start middle flow k files i) where
    pub each_turn : i < length files → Walks w middle now next (entered_flow w (get_or files i d) true (known_view flow.now))
        → flow_view after ≡ both_flow (flow_view flow) (flow_view next) → EachTurn w start now after k files (i + 1)
    each_turn lt walked joins =
        let meant = entered_flow w (get_or files i d) true turn.meant.now in
        let second = subst (λ m. Walks w middle now next (entered_flow w (get_or files i d) true m)) turn.walks.flows.now walked in
        record {
          meant = both_flow turn.meant meant;
          walks = both_walked w start middle now flow next after turn.meant meant turn.walks second joins;
          rest = sym (at_drop_more (λ ns. each_flow w ns turn.meant) files i d lt) ∙ turn.rest;
        }

  -- ---- a selection

  module _ (chosen after : code_chosen.Chosen) (k : Known Span) (branches : List Branch) (i : ℕ) (d : Branch) (turn : SelectionTurn w start middle chosen k branches i) where
    pub selection_turn : i < length branches
        → Chooses w start now after (branch_chosen w (here w middle) (2 * i) (branch_view w.source.now (get_or branches i d)) turn.meant)
        → SelectionTurn w start now after k branches (i + 1)
    selection_turn lt chooses =
        let there : place w.file middle.path.items ≡ place w.file start.path.items = ap (place w.file) turn.chooses.taken.back in
        let next : 2 * i + 2 ≡ 2 * (i + 1) = omega arith in
        let meant = branch_chosen w (here w start) (2 * i) (branch_view w.source.now (get_or branches i d)) turn.meant in
        record {
          meant = meant;
          chooses = subst (λ q. Chooses w start now after (branch_chosen w q (2 * i) (branch_view w.source.now (get_or branches i d)) turn.meant)) there chooses;
          rest =
              ap (λ n. branches_flow w (here w start) n (drop (i + 1) branches) meant) (sym next)
              ∙ sym (at_drop_more (λ bs. branches_flow w (here w start) (2 * i) bs turn.meant) branches i d lt) ∙ turn.rest;
        }

module _ (w : Walk) (start now : Trail) where
  pub block_ended : (flow : code.Flow) (k : Known Span) (b : rust_block.Block) (stmts : List Stmt) (i : ℕ) → stmts ≡ b.statements → length stmts ≤ i
      → BlockTurn w start now flow k stmts i → Walks w start now flow (block_flow w (here w start) (block_view w.source.now b) k)
  block_ended flow k b stmts i same past turn =
      subst (Walks w start now flow)
      (sym (at_drop_all (λ ss. statements_flow w (here w start) i ss turn.meant) stmts i past) ∙ turn.rest
      ∙ ap (λ ss. statements_flow w (here w start) 0 ss (going_on k)) same
      ∙ ap (λ c. block_flow w (here w start) c k) (sym (block_is w.source.now b)))
      turn.walks

  pub each_ended : (flow : code.Flow) (k : Known Span) (files : List ℕ) (i : ℕ) → length files ≤ i → EachTurn w start now flow k files i
      → Walks w start now flow (each_flow w files (going_on k))
  each_ended flow k files i past turn = subst (Walks w start now flow) (sym (at_drop_all (λ ns. each_flow w ns turn.meant) files i past) ∙ turn.rest) turn.walks

  -- what is meant by all conditions and their blocks
  pub selection_ended : (chosen : code_chosen.Chosen) (k : Known Span) (branches : List Branch) (i : ℕ) → length branches ≤ i
      → SelectionTurn w start now chosen k branches i → Chooses w start now chosen (branches_flow w (here w start) 0 branches (no_branch k))
  selection_ended chosen k branches i past turn =
      subst (Chooses w start now chosen) (sym (at_drop_all (λ bs. branches_flow w (here w start) (2 * i) bs turn.meant) branches i past) ∙ turn.rest) turn.chooses

-- a condition and the block that it leads to, after the branches before
module _ (w : Walk) (start middle inside now : Trail) (chosen with_one after : code_chosen.Chosen) (condition flow : code.Flow) (begins : Known Span) (before : Choice Span) (n : ℕ) (b : Branch) where
  abbrev condition_flow : CallRef → Expression Span → Known Span → Flow Span
  condition_flow q e k = expression_flow w (child q n) e k

  pub branch_walked : Chooses w start middle chosen before → Walks w middle inside condition (condition_flow (here w middle) (expr_view w.source.now b.condition) (known_view chosen.left))
      → chosen_view with_one ≡ with_condition (flow_view chosen.taken) (flow_view condition) → begins ≡ known_view with_one.left
      → Walks w inside now flow (block_flow w (child (here w inside) (n + 1)) (block_view w.source.now b.block) begins)
      → chosen_view after ≡ with_block (chosen_view with_one) (flow_view flow) → Chooses w start now after (branch_chosen w (here w middle) n (branch_view w.source.now b) before)
  branch_walked chooses walked one left led joins =
      let v = branch_view w.source.now b in
      let G = condition_flow (here w middle) v.0 before.left in
      let first : Walks w middle inside condition G =
      subst (λ e. Walks w middle inside condition (condition_flow (here w middle) e before.left)) (sym (branch_condition w.source.now b))
      (subst (λ k. Walks w middle inside condition (condition_flow (here w middle) (expr_view w.source.now b.condition) k)) chooses.left walked) in
      let chosen_one = condition_walked w start middle inside chosen with_one condition before G chooses first one in
      let there : place w.file inside.path.items ≡ place w.file middle.path.items = ap (place w.file) first.back in
      let second : Walks w inside now flow (block_flow w (child (here w middle) (n + 1)) v.1 G.now) =
      subst (λ k. Walks w inside now flow (block_flow w (child (here w middle) (n + 1)) v.1 k)) (left ∙ chosen_one.left)
      (subst (λ c. Walks w inside now flow (block_flow w (child (here w middle) (n + 1)) c begins)) (sym (branch_block w.source.now b))
      (subst (λ q. Walks w inside now flow (block_flow w (child q (n + 1)) (block_view w.source.now b.block) begins)) there led)) in
      block_walked w start inside now with_one after flow (with_condition before.taken G) (block_flow w (child (here w middle) (n + 1)) v.1 G.now) chosen_one second joins

-- the turns of a loop: a quiet one, and one in which the place is asked
module _ (w : Walk) (start middle now : Trail) (once flow : code.Flow) (before : Option code_made.Made) (sets : Bool) (b : Block Span) (k : Known Span) where
  abbrev turns : Known Span → Flow Span
  turns = turn_flow w (here w start) sets b

  pub loop_walked : Walks (asking w true) start middle once (turns k) → known_view before ≡ around k (flow_view once)
      → now.path.items ≡ middle.path.items
      → found_view now.found ≡ met_unless w.quiet w.question (found_view middle.found) (turn_flow w (here w middle) sets b (known_view before)).arrivals
      → flow_view flow ≡ looped (known_view before) (flow_view once) [] → Walks w start now flow (loop_flow w (here w start) sets b k)
  loop_walked first begins back found is =
      let begun : known_view before ≡ around k (turns k) = begins ∙ ap₂ (λ n t. joined k (joined n t)) first.flows.now first.flows.turned in
      let there : place w.file middle.path.items ≡ place w.file start.path.items = ap (place w.file) first.back in
      record {
        back = back ∙ first.back;
        flows = record {
          now = ap (λ v. v.now) is ∙ begun;
          turned = ap (λ v. v.turned) is;
          ended =
              ap (λ v. v.ended) is ∙ ap (λ l. known_if l (joined (known_view once.ended) (known_view before))) first.flows.leaves
              ∙ ap₂ (λ e n. known_if (turns k).leaves (joined e n)) first.flows.ended begun;
          leaves = ap (λ v. v.leaves) is ∙ first.flows.leaves;
          found =
              found ∙ ap (λ f. met_unless w.quiet w.question f (turn_flow w (here w middle) sets b (known_view before)).arrivals) first.flows.found
              ∙ ap (λ q. met_unless w.quiet w.question (found_view start.found) (turn_flow w q sets b (known_view before)).arrivals) there
              ∙ ap (λ n. met_unless w.quiet w.question (found_view start.found) (turns n).arrivals) begun;
        };
      }

-- the last of the branches, to which no condition leads
module _ (w : Walk) (start middle now : Trail) (chosen : code_chosen.Chosen) (last flow : code.Flow) (k : Known Span) (branches : List Branch) (o : Otherwise Span) where
  pub selection_walked : Chooses w start middle chosen (branches_flow w (here w start) 0 branches (no_branch k))
      → Walks w middle now last (otherwise_flow w (here w middle) (2 * length branches) o (known_view chosen.left))
      → flow_view flow ≡ either_flow (flow_view chosen.taken) (flow_view last) → Walks w start now flow (selection_flow w (here w start) (branches_of (branches_view w.source.now branches)) o k)
  selection_walked chooses walked joins =
      let there : place w.file middle.path.items ≡ place w.file start.path.items = ap (place w.file) chooses.taken.back in
      let meant = branches_flow w (here w start) 0 branches (no_branch k) in
      let second : Walks w middle now last (otherwise_flow w (here w start) (branches_child_count (branches_of (branches_view w.source.now branches))) o meant.left) =
      subst (λ n. Walks w middle now last (otherwise_flow w (here w start) n o meant.left)) (two_each w.source.now branches)
      (subst (λ l. Walks w middle now last (otherwise_flow w (here w start) (2 * length branches) o l)) chooses.left
      (subst (λ q. Walks w middle now last (otherwise_flow w q (2 * length branches) o (known_view chosen.left))) there walked)) in
      either_walked w start middle now chosen.taken last flow meant.taken
      (otherwise_flow w (here w start) (branches_child_count (branches_of (branches_view w.source.now branches))) o meant.left) chooses.taken second joins
