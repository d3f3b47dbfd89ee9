-- The statement of a target, and the step that removes it.
use Rattle.meson_targets.proofs.Words.{Stay}
use Rattle.meson_targets.proofs.Words.{◌≡◌, ℕ, zero, suc, ◌+◌, ◌<◌, ◌≤◌, List, [], ◌∷◌, take, length, get_or, map, Option, Some, None, refl, sym, ap, ◌∙◌}
use Rattle.meson_targets.proofs.Words.{arith, ok_or, option_map, option_and_then, Result, Ok, Err, IfOk, bytes_at, then_ok, File, Span, Statement, view, Parsed}
use Rattle.meson_targets.proofs.Words.{block_at, statement_in, named_trees, views, Project, BuildFile, nth_file, place, CallRef, Refusal, NotStatement}
use Rattle.meson_targets.proofs.Words.{AreMeant, Step, ListStep, StatementPlace, Holder, statement_path, statement_of, statement_there, held_by, holder}
use Rattle.meson_targets.proofs.Words.{named_removed, not_in_use, call_removed, statement_removal, target_removed}
use Rattle.meson_calls.specs.declared.call.Role.TheVariants as role
use Rattle.meson_steps.specs.declared.step.ListEdit.TheVariants as code
use Rattle.meson_calls.specs.declared.call.CallName.{CallName}
use Rattle.meson_calls.specs.Finding.{the_call}
use Rattle.meson_calls.proofs.Standing.{nth_there}
use Rattle.meson_calls.proofs.OneCall.{placed_at, call_there}

-- ---- the path of a statement

pub short_path : (path : List ℕ) → length path < 2 → statement_path path ≡ None
short_path [] short = refl
short_path (n ∷ []) short = refl
short_path (n ∷ m ∷ path) short = absurd (omega (arith, short))

pub long_path : (path : List ℕ) (j : ℕ) → length path ≡ j + 2 → statement_path path ≡ Some (take j path, get_or path j 0)
long_path [] j long = absurd (omega (arith, long))
long_path (n ∷ []) j long = absurd (omega (arith, long))
long_path (n ∷ m ∷ []) zero long = refl
long_path (n ∷ m ∷ []) (suc j) long = absurd (omega (arith, long))
long_path (n ∷ m ∷ k ∷ path) zero long = absurd (omega (arith, long))
long_path (n ∷ m ∷ k ∷ path) (suc j) long =
    let less : length (m ∷ k ∷ path) ≡ j + 2 = omega (arith, long) in
    ap (option_map (λ (line : List ℕ × ℕ). (n ∷ line.0, line.1))) (long_path (m ∷ k ∷ path) j less)

-- the line of a place whose path has two steps or more
pub place_there : (call : CallRef) (block : List ℕ) (j number : ℕ) → length call.path.steps ≡ j + 2 → block ≡ take j call.path.steps → number ≡ get_or call.path.steps j 0
    → Some (record { block = place call.file block; number = number }) ≡ statement_of call
place_there call block j number long is_block is_number =
    let both : (block, number) ≡ (take j call.path.steps, get_or call.path.steps j 0) = ap (λ b. (b, number)) is_block ∙ ap (λ n. (take j call.path.steps, n)) is_number in
    ap (λ (line : List ℕ × ℕ). Some (record { block = place call.file line.0; number = line.1 })) both
    ∙ sym (ap (option_map (λ (line : List ℕ × ℕ). record { block = place call.file line.0; number = line.1 })) (long_path call.path.steps j long))

-- ---- the statement there

nth_past : (files : List File) (trees : List Parsed) (i : ℕ) → length trees ≤ i → nth_file (named_trees files (views files trees)) i ≡ None
nth_past [] trees i past = refl
nth_past (f ∷ files) [] i past = refl
nth_past (f ∷ files) (t ∷ trees) zero past = absurd (omega (arith, past))
nth_past (f ∷ files) (t ∷ trees) (suc i) past = let below : length trees ≤ i = omega (arith, past) in nth_past files trees i below

abbrev pub in_build_file : StatementPlace → BuildFile Span → Option (Statement Span)
in_build_file line f = option_and_then (λ b. statement_in b.inside line.number) (block_at f.tree line.block.path.steps)

pub no_statement : (files : List File) (trees : List Parsed) (line : StatementPlace) → length trees ≤ line.block.file → None ≡ option_and_then held_by (statement_there (named_trees files (views files trees)) line)
no_statement files trees line past = sym (ap (λ o. option_and_then held_by (option_and_then (in_build_file line) o)) (nth_past files trees line.block.file past))

pub statement_is : (files : List File) (trees : List Parsed) (line : StatementPlace) (d : Parsed) → length trees ≡ length files → line.block.file < length trees
    → statement_there (named_trees files (views files trees)) line
    ≡ option_and_then (λ b. statement_in b.inside line.number) (block_at (view (bytes_at line.block.file files) (get_or trees line.block.file d)) line.block.path.steps)
statement_is files trees line d many within = ap (option_and_then (in_build_file line)) (nth_there files trees line.block.file d many within)

-- ---- what the removal of a target means

module _ (p : Project Span) (call : CallRef) where
  abbrev from_holder : Option Holder → Result (List Step) Refusal
  from_holder o = then_ok (ok_or o NotStatement) (λ h. then_ok (not_in_use p h.statement h.held) (λ _. Ok (statement_removal h.statement)))

  pub not_held : None ≡ holder p call → call_removed p call ≡ Err NotStatement
  not_held none = ap from_holder (sym none)

  module _ (h : Holder) (is_held : Some h ≡ holder p call) where
    on_held : call_removed p call ≡ then_ok (not_in_use p h.statement h.held) (λ _. Ok (statement_removal h.statement))
    on_held = ap from_holder (sym is_held)

    pub in_use : (e : Refusal) → not_in_use p h.statement h.held ≡ Err e → call_removed p call ≡ Err e
    in_use e is = on_held ∙ ap (λ r. then_ok r (λ _. Ok (statement_removal h.statement))) is

    removed_is : not_in_use p h.statement h.held ≡ Ok tt → call_removed p call ≡ Ok (statement_removal h.statement)
    removed_is is = on_held ∙ ap (λ r. then_ok r (λ _. Ok (statement_removal h.statement))) is

    pub removal_meant : {V : Type 0} (list : V → List ListStep) (r : Result V Refusal) → not_in_use p h.statement h.held ≡ Ok tt
        → IfOk r (λ v. list v ≡ record { list = h.statement.block; edit = code.RemoveStatement h.statement.number Stay } ∷ []) → IfOk r (λ v. AreMeant (call_removed p call) (list v))
    removal_meant list (Ok v) is done = record { steps = statement_removal h.statement; is = removed_is is; bare = sym (ap (map Some) done) }
    removal_meant list (Err e) is done = tt

-- ---- of the target that is named

-- the call that an id names is removed at its place
pub named_at : (p : Project Span) (name : CallName) (call : CallRef) → placed_at (the_call p role.Target name) ≡ Ok call → call_removed p call ≡ named_removed p name
named_at p name call found =
    let one = call_there (the_call p role.Target name) call found in
    sym (ap (λ r. then_ok r (λ c. target_removed p c)) one.1 ∙ ap (call_removed p) one.2)
