-- A statement in which nothing matters to a variable: what is known of it stays, and it is not read.
use Rattle.std.proofs.Common.{◌≡◌, ◌⊎◌, inl, inr, ℕ, ◌+◌, List, [], ◌∷◌, ◌++◌, length, take, drop, take-append-drop, refl, sym, ap, ap₂, subst, ◌∙◌}
use Rattle.std.specs.Prelude.{Bool, true, false, not, ◌||◌, ◌==◌, bytes_eq, codes, nat_eq, Some, None}
use Rattle.std.specs.List.{starts_with}
use Rattle.std.proofs.Math.Seq.{take-append_seam}
use Rattle.std.proofs.lemmas.Bool.{and_from, and_parts, false≢true}
use Rattle.std.proofs.lemmas.List.{append_assoc}
use Rattle.std.proofs.lemmas.Slice.Eq.{bytes_eq-Decides}
use Rattle.meson_lex.specs.Significant.{new_line}
use Rattle.meson_lex.specs.declared.kinds.Kind.{Kind}
use Rattle.meson_lex.specs.declared.kinds.Kind.TheVariants as k
use Rattle.meson_lex.specs.declared.kinds.Span.{Span}
use Rattle.meson_syntax.specs.Grammar.{block_words, branches_words, expression_words, mark, more_names_words, names_words, otherwise_words, statement_words, statements_words}
use Rattle.meson_syntax.specs.Tree.{Name, Expression, identifier, boolean, integer, string, paren, array, dictionary, call, unary, row, postfix, conditional, Statement, evaluate, assign, selection, iteration, breaks, continues, Branches, no_branches, branch, Otherwise, nothing_else, otherwise, Statements, no_statements, statement, Block, block}
use Rattle.meson_syntax.proofs.paths.Every.{Every, every-append}
use Rattle.meson_calls.specs.declared.call.CallRef.{CallRef}
use Rattle.meson_calls.specs.Calls.{Call, call_of, calls_function}
use Rattle.meson_calls.specs.Parts.{branches_child_count}
use Rattle.meson_calls.specs.Project.{Placed, child, placed}
use Rattle.meson_variables.specs.Variables.{one_of_names}
use Rattle.meson_following.specs.declared.effects.Effect.{Effect}
use Rattle.meson_following.specs.declared.effects.Effect.TheVariants.{Nothing}
use Rattle.meson_following.specs.Effects.{any_may_set, calls_of, calls_of_listing}
use Rattle.meson_following.specs.Flows.{Arrival, Choice, Flow, around, assigned_if, begun, either_flow, flow_block, flow_branches, flow_call, flow_calls, flow_effect, flow_expression, flow_loop, flow_otherwise, flow_statement, flow_statements, going_on, is_in, known_if, maker, no_branch, then_flow, touched_if, with_block, with_condition}
use Rattle.meson_following.specs.Makers.{Known, joined}
use Rattle.meson_following.specs.Passing.{are_branches_calm, are_calm, is_block_calm, is_calm, is_error, is_kept, is_otherwise_calm}
use Rattle.meson_following.specs.Reads.{read_places}
use Rattle.meson_following.proofs.JoinedItself.{joined_itself}
use Rattle.meson_following.proofs.MuteParts.{AreQuiet, calls_mute, differs, itself_in, no_reads, none_leaves, none_sets}
use Rattle.meson_following.proofs.MuteWords.{AreMute, IsMute, mute_left, mute_right}

-- ---- places within others

shorter : (a b r : List ℕ) → starts_with nat_eq a (b ++ r) ≡ true → starts_with nat_eq a b ≡ true
shorter a b r begins =
    let front : b ++ r ≡ take (length (b ++ r)) a = (bytes_eq-Decides (b ++ r) (take (length (b ++ r)) a)).0 begins in
    let rest = drop (length (b ++ r)) a in
    let whole : a ≡ b ++ (r ++ rest) = sym (take-append-drop (length (b ++ r)) a) ∙ ap (λ t. t ++ rest) (sym front) ∙ append_assoc b r rest in
    let kept : b ≡ take (length b) a = sym (take-append_seam b (r ++ rest)) ∙ ap (take (length b)) (sym whole) in
    (bytes_eq-Decides b (take (length b) a)).1 kept

not_in_child : (c q : CallRef) (n : ℕ) → is_in c q ≡ false → is_in c (child q n) ≡ false
not_in_child c q n off = by (is_in c (child q n)) refl
  where
    by : (b : Bool) → is_in c (child q n) ≡ b → b ≡ false
    by false is = refl
    by true is =
        let both = and_parts (c.file == q.file) (starts_with nat_eq c.path.steps (q.path.steps ++ n ∷ [])) is in
        absurd (false≢true (sym off ∙ and_from (c.file == q.file) (starts_with nat_eq c.path.steps q.path.steps) both.0 (shorter c.path.steps q.path.steps (n ∷ []) both.1)))

module _ (x : List ℕ) where
  -- a place that is not in what is at `q` is not in it, and it does not read the variable
  abbrev pub IsMissed : CallRef → Arrival Span → Type 0
  IsMissed q a = ((c : CallRef) → is_in c q ≡ false → is_in c a.at_expression.place ≡ false) × (read_places x a.at_expression ≡ [])

  missed_around : (q : CallRef) (n : ℕ) (all : List (Arrival Span)) → Every (IsMissed (child q n)) all → Every (IsMissed q) all
  missed_around q n [] missed = tt
  missed_around q n (a ∷ all) missed = ((λ c off. missed.0.0 c (not_in_child c q n off), missed.0.1), missed_around q n all missed.1)

  not_among : (xs : List (Name Span)) → AreMute x (names_words xs) → one_of_names xs x ≡ false
  not_among [] mute = refl
  not_among (y ∷ ys) mute = ap₂ (λ a b. a || b) (differs x y.text x mute.0.variable (itself_in x)) (more ys mute.1)
    where
      more : (ys : List (Name Span)) → AreMute x (more_names_words ys) → one_of_names ys x ≡ false
      more [] mute = refl
      more (y ∷ ys) mute = ap₂ (λ a b. a || b) (differs x y.text x mute.1.0.variable (itself_in x)) (more ys mute.1.1)

module _ (x : List ℕ) (effect : Placed (Call Span) → Effect) (enter : ℕ → Known Span → Flow Span)
    (harmless : (q : CallRef) (c : Call Span) → IsMute x c.function → calls_function (codes "error") c ≡ false → effect (placed q c) ≡ Nothing)
    (known : Known Span) (kept : is_kept known ≡ true) where
  -- what was known stays, and nothing is met
  pub record IsIdle (q : CallRef) (f : Flow Span) : Type 0 where
    pub now : f.now ≡ known
    pub turned : f.turned ≡ None
    pub ended : f.ended ≡ None
    pub leaves : f.leaves ≡ false
    pub arrivals : Every (IsMissed x q) f.arrivals

  -- ---- flows one after another

  on_idle : (q : CallRef) → IsIdle q (going_on known)
  on_idle q = record { now = refl; turned = refl; ended = refl; leaves = refl; arrivals = tt }

  around_idle : (q : CallRef) (n : ℕ) (f : Flow Span) → IsIdle (child q n) f → IsIdle q f
  around_idle q n f idle =
      record { now = idle.now; turned = idle.turned; ended = idle.ended; leaves = idle.leaves; arrivals = missed_around x q n f.arrivals idle.arrivals }

  then_idle : (q : CallRef) (f : Flow Span) (more : Known Span → Flow Span) → IsIdle q f → IsIdle q (more known) → IsIdle q (then_flow f more)
  then_idle q f more idle last =
      let next = subst (λ m. IsIdle q (more m)) (sym idle.now) last in
      record {
        now = next.now;
        turned = ap₂ joined idle.turned next.turned;
        ended = ap₂ joined idle.ended next.ended;
        leaves = ap₂ (λ a b. a || b) idle.leaves next.leaves;
        arrivals = every-append (IsMissed x q) f.arrivals (more f.now).arrivals idle.arrivals next.arrivals;
      }

  -- ---- expressions

  calls_idle : (q : CallRef) (cs : List (Call Span)) (e : Expression Span) → AreQuiet x cs → AreMute x (expression_words e) → IsIdle q (flow_calls x cs (placed q e) known)
  calls_idle q cs e quiet mute =
      let sets = none_sets x cs quiet in
      let leaves = none_leaves x cs quiet in
      record {
        now = ap (λ b. touched_if b known) sets;
        turned = refl;
        ended = ap (λ b. known_if b (touched_if (any_may_set x cs) known)) leaves;
        leaves = leaves;
        arrivals = ((λ c off. off, no_reads x q e mute), tt);
      }

  expression_idle : (q : CallRef) (e : Expression Span) → AreMute x (expression_words e) → IsIdle q (flow_expression x q e known)
  expression_idle q e mute = calls_idle q (calls_of e) e (calls_mute x e mute) mute

  evaluated_idle : (q : CallRef) (e : Expression Span) → AreMute x (expression_words e) → not (is_error (call_of e)) ≡ true → IsIdle q (flow_call x effect enter q e (call_of e) known)
  evaluated_idle q (call s f l) mute calm =
      let c : Call Span = record { function = f.text; arguments = l } in
      then_idle q (flow_calls x (calls_of_listing l) (placed q (call s f l)) known) (flow_effect enter (effect (placed q c)))
      (calls_idle q (calls_of_listing l) (call s f l) (calls_mute x (call s f l) mute).1 mute)
      (subst (λ e. IsIdle q (flow_effect enter e known)) (sym (harmless q c mute.0 (off (calls_function (codes "error") c) calm))) (on_idle q))
    where
      off : (b : Bool) → not b ≡ true → b ≡ false
      off false is = refl
      off true is = absurd (false≢true is)
  evaluated_idle q (identifier s y) mute calm = expression_idle q (identifier s y) mute
  evaluated_idle q (boolean s b) mute calm = expression_idle q (boolean s b) mute
  evaluated_idle q (integer s y) mute calm = expression_idle q (integer s y) mute
  evaluated_idle q (string s u y) mute calm = expression_idle q (string s u y) mute
  evaluated_idle q (paren s e) mute calm = expression_idle q (paren s e) mute
  evaluated_idle q (array l) mute calm = expression_idle q (array l) mute
  evaluated_idle q (dictionary l) mute calm = expression_idle q (dictionary l) mute
  evaluated_idle q (unary s o e) mute calm = expression_idle q (unary s o e) mute
  evaluated_idle q (row s e os) mute calm = expression_idle q (row s e os) mute
  evaluated_idle q (postfix s e ts) mute calm = expression_idle q (postfix s e ts) mute
  evaluated_idle q (conditional s c y n) mute calm = expression_idle q (conditional s c y n) mute

  -- ---- branches

  record IsIdleChoice (q : CallRef) (c : Choice Span) : Type 0 where
    now : (c.taken.now ≡ None) ⊎ (c.taken.now ≡ known)
    turned : c.taken.turned ≡ None
    ended : c.taken.ended ≡ None
    leaves : c.taken.leaves ≡ false
    arrivals : Every (IsMissed x q) c.taken.arrivals
    left : c.left ≡ known

  none_idle : (q : CallRef) → IsIdleChoice q (no_branch known)
  none_idle q = record { now = inl refl; turned = refl; ended = refl; leaves = refl; arrivals = tt; left = refl }

  joins : (taken now : Known Span) → (taken ≡ None) ⊎ (taken ≡ known) → now ≡ known → joined taken now ≡ known
  joins taken now (inl none) is = ap₂ joined none is
  joins taken now (inr same) is = ap₂ joined same is ∙ joined_itself known kept

  condition_idle : (q : CallRef) (c : Choice Span) (g : Flow Span) → IsIdleChoice q c → IsIdle q g → IsIdleChoice q (with_condition c.taken g)
  condition_idle q c g idle condition =
      record {
        now = idle.now;
        turned = ap₂ joined idle.turned condition.turned;
        ended = ap₂ joined idle.ended condition.ended;
        leaves = ap₂ (λ a b. a || b) idle.leaves condition.leaves;
        arrivals = every-append (IsMissed x q) c.taken.arrivals g.arrivals idle.arrivals condition.arrivals;
        left = condition.now;
      }

  either_idle : (q : CallRef) (c : Choice Span) (g : Flow Span) → IsIdleChoice q c → IsIdle q g → IsIdle q (either_flow c.taken g)
  either_idle q c g idle last =
      record {
        now = joins c.taken.now g.now idle.now last.now;
        turned = ap₂ joined idle.turned last.turned;
        ended = ap₂ joined idle.ended last.ended;
        leaves = ap₂ (λ a b. a || b) idle.leaves last.leaves;
        arrivals = every-append (IsMissed x q) c.taken.arrivals g.arrivals idle.arrivals last.arrivals;
      }

  block_taken : (q : CallRef) (c : Choice Span) (g : Flow Span) → IsIdleChoice q c → IsIdle q g → IsIdleChoice q (with_block c g)
  block_taken q c g idle inside =
      let both = either_idle q c g idle inside in
      record { now = inr both.now; turned = both.turned; ended = both.ended; leaves = both.leaves; arrivals = both.arrivals; left = idle.left }

  -- ---- loops

  loop_idle : (q : CallRef) (turn : Known Span → Flow Span) → IsIdle q (turn known) → IsIdle q (flow_loop turn known)
  loop_idle q turn idle =
      let once = turn known in
      let before : around known once ≡ known = ap (joined known) (ap₂ joined idle.now idle.turned ∙ rest known) ∙ joined_itself known kept in
      record {
        now = before;
        turned = refl;
        ended = ap (λ b. known_if b (joined once.ended (around known once))) idle.leaves;
        leaves = idle.leaves;
        arrivals = subst (λ m. Every (IsMissed x q) (turn m).arrivals) (sym before) idle.arrivals;
      }
    where
      rest : (m : Known Span) → joined m None ≡ m
      rest None = refl
      rest (Some m) = refl

  -- ---- statements

  mutual
    pub statement_idle : (q : CallRef) (s : Statement Span) → AreMute x (statement_words s) → is_calm s ≡ true → IsIdle q (flow_statement x effect enter q s known)
    statement_idle q (evaluate e) mute calm = around_idle q 0 (flow_call x effect enter (child q 0) e (call_of e) known) (evaluated_idle (child q 0) e mute calm)
    statement_idle q (assign s y a e) mute calm =
        then_idle q (flow_expression x (child q 0) e known) (λ now. going_on (assigned_if (bytes_eq y.text x) (maker q a e) now))
        (around_idle q 0 (flow_expression x (child q 0) e known) (expression_idle (child q 0) e (mute.1.1)))
        (subst (λ b. IsIdle q (going_on (assigned_if b (maker q a e) known))) (sym (differs x y.text x mute.0.variable (itself_in x))) (on_idle q))
    statement_idle q (selection s bs o) mute calm =
        let both = and_parts (are_branches_calm bs) (is_otherwise_calm o) calm in
        let rest = mute_right x (branches_words bs k.WordIf) (otherwise_words o ++ mark k.WordEndif) mute in
        let c = flow_branches x effect enter q 0 bs (no_branch known) in
        let idle = branches_idle q 0 bs k.WordIf (no_branch known) (mute_left x (branches_words bs k.WordIf) (otherwise_words o ++ mark k.WordEndif) mute) both.0 (none_idle q) in
        subst (λ m. IsIdle q (either_flow c.taken (flow_otherwise x effect enter q (branches_child_count bs) o m))) (sym idle.left)
        (either_idle q c (flow_otherwise x effect enter q (branches_child_count bs) o known) idle
        (otherwise_idle q (branches_child_count bs) o (mute_left x (otherwise_words o) (mark k.WordEndif) rest) both.1))
    statement_idle q (iteration s xs e b) mute calm =
        let names = mute_left x (names_words xs) (mark k.Colon ++ (expression_words e ++ ((new_line ∷ block_words b) ++ mark k.WordEndforeach))) mute.1 in
        let after_names = (mute_right x (names_words xs) (mark k.Colon ++ (expression_words e ++ ((new_line ∷ block_words b) ++ mark k.WordEndforeach))) mute.1).1 in
        let items = mute_left x (expression_words e) ((new_line ∷ block_words b) ++ mark k.WordEndforeach) after_names in
        let body = mute_left x (block_words b) (mark k.WordEndforeach) (mute_right x (expression_words e) ((new_line ∷ block_words b) ++ mark k.WordEndforeach) after_names).1 in
        let turn : Known Span → Flow Span = λ now. flow_block x effect enter (child q 1) b (begun (one_of_names xs x) now) in
        then_idle q (flow_expression x (child q 0) e known) (flow_loop turn)
        (around_idle q 0 (flow_expression x (child q 0) e known) (expression_idle (child q 0) e items))
        (loop_idle q turn
        (subst (λ a. IsIdle q (flow_block x effect enter (child q 1) b (begun a known))) (sym (not_among x xs names))
        (around_idle q 1 (flow_block x effect enter (child q 1) b known) (block_idle (child q 1) b body calm))))
    statement_idle q (breaks s) mute calm = absurd (false≢true calm)
    statement_idle q (continues s) mute calm = absurd (false≢true calm)

    branches_idle : (q : CallRef) (n : ℕ) (bs : Branches Span) (word : Kind) (c : Choice Span) → AreMute x (branches_words bs word) → are_branches_calm bs ≡ true → IsIdleChoice q c
        → IsIdleChoice q (flow_branches x effect enter q n bs c)
    branches_idle q n no_branches word c mute calm idle = idle
    branches_idle q n (branch e b more) word c mute calm idle =
        let both = and_parts (is_block_calm b) (are_branches_calm more) calm in
        let after_condition = mute_right x (expression_words e) ((new_line ∷ block_words b) ++ branches_words more k.WordElif) mute.1 in
        let G = flow_expression x (child q n) e c.left in
        let condition = subst (λ m. IsIdle q (flow_expression x (child q n) e m)) (sym idle.left)
        (around_idle q n (flow_expression x (child q n) e known) (expression_idle (child q n) e (mute_left x (expression_words e) ((new_line ∷ block_words b) ++ branches_words more k.WordElif) mute.1))) in
        let d = with_condition c.taken G in
        let chosen = condition_idle q c G idle condition in
        let inside = subst (λ m. IsIdle q (flow_block x effect enter (child q (n + 1)) b m)) (sym chosen.left)
        (around_idle q (n + 1) (flow_block x effect enter (child q (n + 1)) b known) (block_idle (child q (n + 1)) b (mute_left x (block_words b) (branches_words more k.WordElif) after_condition.1) both.0)) in
        branches_idle q (n + 2) more k.WordElif (with_block d (flow_block x effect enter (child q (n + 1)) b d.left)) (mute_right x (block_words b) (branches_words more k.WordElif) after_condition.1) both.1
        (block_taken q d (flow_block x effect enter (child q (n + 1)) b d.left) chosen inside)

    otherwise_idle : (q : CallRef) (n : ℕ) (o : Otherwise Span) → AreMute x (otherwise_words o) → is_otherwise_calm o ≡ true → IsIdle q (flow_otherwise x effect enter q n o known)
    otherwise_idle q n nothing_else mute calm = on_idle q
    otherwise_idle q n (otherwise b) mute calm = around_idle q n (flow_block x effect enter (child q n) b known) (block_idle (child q n) b mute.1.1 calm)

    statements_idle : (q : CallRef) (n : ℕ) (list : Statements Span) (f : Flow Span) → AreMute x (statements_words list) → are_calm list ≡ true → IsIdle q f → IsIdle q (flow_statements x effect enter q n list f)
    statements_idle q n no_statements f mute calm idle = idle
    statements_idle q n (statement s more) f mute calm idle =
        let both = and_parts (is_calm s) (are_calm more) calm in
        statements_idle q (n + 1) more (then_flow f (flow_statement x effect enter (child q n) s)) (mute_right x (statement_words s) (new_line ∷ statements_words more) mute).1 both.1
        (then_idle q f (flow_statement x effect enter (child q n) s) idle
        (around_idle q n (flow_statement x effect enter (child q n) s known) (statement_idle (child q n) s (mute_left x (statement_words s) (new_line ∷ statements_words more) mute) both.0)))

    block_idle : (q : CallRef) (b : Block Span) → AreMute x (block_words b) → is_block_calm b ≡ true → IsIdle q (flow_block x effect enter q b known)
    block_idle q (block s list) mute calm = statements_idle q 0 list (going_on known) mute calm (on_idle q)
