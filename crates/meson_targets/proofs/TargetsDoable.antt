-- A target may be put at the end of the file of its folder, and taken out with its statement.
use Rattle.meson_targets.proofs.Words.{◌≡◌, ℕ, zero, suc, ◌<◌, List, [], ◌∷◌, map, length, true, false, Option, Some, None, refl, ap, ◌∙◌, subst, arith, All}
use Rattle.meson_targets.proofs.Words.{Bool, bytes_eq, if◌then◌else◌, position, ok_or, option_map, option_and_then, Result, Ok, Err, IfOk, IsUtf8, All-head}
use Rattle.meson_targets.proofs.Words.{All-tail, All-cons, then_ok, File, Span, nth, Nowhere, Plain, Statement, Statements, no_statements, statement}
use Rattle.meson_targets.proofs.Words.{statement_list, Block, block, erase, erase_statement, erase_statements, erase_block, Parsed, map-some, and-then-some}
use Rattle.meson_targets.proofs.Words.{BlockAt, block_at, statement_in, block_without, RemoveStatement, edited, blocks-erase, Call, Loaded, IsProject}
use Rattle.meson_targets.proofs.Words.{named_trees, views, project, Project, BuildFile, Placed, nth_file, Refusal, WrongKind, NoFile, NotStatement, as_many}
use Rattle.meson_targets.proofs.Words.{AreDoable, AreMeant, checked_names, distinct, plain_trees, Step, ListStep, trees_stand, all_texts, then_was}
use Rattle.meson_targets.proofs.Words.{StatementPlace, Holder, is_target_kind, kind_key, checked_kind, targets_named, not_taken, file_number, file_of_folder}
use Rattle.meson_targets.proofs.Words.{number_in, append_steps, target_added, statement_there, held_by, holder, statement_of, not_in_use, statement_removal}
use Rattle.meson_targets.proofs.Words.{target_removed, written_target}
use Rattle.std.proofs.lemmas.List.Quantifiers.{position-Some}
use Rattle.meson_layout.specs.declared.primitive.BlankLines.{BlankLines}
use Rattle.meson_layout.specs.declared.primitive.BlankLines.TheVariants.{Stay}
use Rattle.meson_syntax.specs.Tree as tree
use Rattle.meson_calls.specs.declared.call.Role.TheVariants as role
use Rattle.meson_calls.specs.declared.call.CallName.{CallName}
use Rattle.meson_calls.specs.Finding.{the_call}
use Rattle.meson_steps.specs.Plans.{ArePlanned}
use Rattle.meson_targets.proofs.NewTargets.{as_many_named}
use Rattle.meson_steps.proofs.Distincts.{All-distinct}
use Rattle.meson_targets.proofs.StatementsDoable.{append_doable, removal_doable}
use Rattle.meson_targets.proofs.TargetText.{target_written, target_level, target_depth}
use Rattle.meson_steps.proofs.OtherBytes.{as_many_plain}

-- ---- files

nth_some : {X : Type 0} (xs : List X) (n : ℕ) → n < length xs → (x : X) × (nth xs n ≡ Some x)
nth_some [] n within = absurd (omega (arith, within))
nth_some (x ∷ xs) zero within = (x, refl)
nth_some (x ∷ xs) (suc n) within = let below : n < length xs = omega (arith, within) in nth_some xs n below

found_within : {X : Type 0} (test : X → Bool) (xs : List X) (n : ℕ) → position test xs ≡ Some n → n < length xs
found_within test [] n is = absurd cc
found_within test (x ∷ xs) n is = (position-Some test (x ∷ xs) n x is).0

plain_there : (files : List File) (trees : List Parsed) (i : ℕ) (f : BuildFile Span) → nth_file (named_trees files (views files trees)) i ≡ Some f → nth (map erase (views files trees)) i ≡ Some (erase f.tree)
plain_there [] trees i f is = absurd cc
plain_there (g ∷ files) [] i f is = absurd cc
plain_there (g ∷ files) (t ∷ trees) zero f is = ap (option_map (λ (h : BuildFile Span). erase h.tree)) is
plain_there (g ∷ files) (t ∷ trees) (suc i) f is = plain_there files trees i f is

-- ---- a target that comes

passed : (b : Bool) (e : Refusal) (u : Unit {0}) → (if b then Ok u else Err e) ≡ Ok u → b ≡ true
passed true e u is = refl
passed false e u is = absurd cc

kind_checked : (kind : List ℕ) (u : Unit {0}) → checked_kind kind ≡ Ok u → is_target_kind kind ≡ true
kind_checked kind u is = passed (is_target_kind kind) (WrongKind kind_key) u is

some_number : (o : Option ℕ) (n : ℕ) → ok_or o NoFile ≡ Ok n → o ≡ Some n
some_number None n is = absurd cc
some_number (Some m) n is = let same : m ≡ n = cc in ap Some same

numbered : (p : Project Span) (folder : List ℕ) (n : ℕ) → number_in p folder ≡ Ok n → n < length p
numbered p folder n is =
    let o = and-then-some (file_number p) (file_of_folder folder) n (some_number _ n is) in
    found_within (λ f. bytes_eq f.name o.0) p n o.2

-- ---- statements

nth_erased : (list : Statements Span) (n : ℕ) → nth (statement_list (erase_statements list)) n ≡ option_map erase_statement (nth (statement_list list) n)
nth_erased no_statements n = refl
nth_erased (statement s more) zero = refl
nth_erased (statement s more) (suc n) = nth_erased more n

pub statement_erased : (b : Block Span) (n : ℕ) → statement_in (erase_block b) n ≡ option_map erase_statement (statement_in b n)
statement_erased (block s list) n = nth_erased list n

pub some_there : (o : Option Holder) (h : Holder) → ok_or o NotStatement ≡ Ok h → o ≡ Some h
some_there None h is = absurd cc
some_there (Some g) h is = let same : g ≡ h = cc in ap Some same

module _ (old : Loaded) (whole : IsProject old) where
  abbrev p : Project Span
  p = project old

  many : length old.parsed ≡ length old.files
  many = as_many old.files old.parsed whole.parsed

  appended_doable : (kind : List ℕ) → is_target_kind kind ≡ true → (texts : List (List ℕ)) → All IsUtf8 texts → (n : ℕ) → n < length p → AreDoable (append_steps kind texts n) (plain_trees old)
  appended_doable kind is texts utf8 n within =
      let named = as_many_named [] old.files old.parsed many in
      let plain = as_many_plain old.files old.parsed many in
      let same = many in
      let below : n < length (plain_trees old) = omega (arith, within, named, plain, same) in
      let there = nth_some (plain_trees old) n below in
      append_doable (plain_trees old) n (written_target kind texts) there.0 there.1 (trees_stand old.files old.parsed whole.parsed) (target_written kind is texts (all_texts texts utf8))
      (target_level kind texts) (target_depth kind texts)

  added_doable : (target kind folder : List ℕ) (sources : List (List ℕ)) → All IsUtf8 (target ∷ sources) → (steps : List Step) → target_added p target kind folder sources ≡ Ok steps → AreDoable steps (plain_trees old)
  added_doable target kind folder sources utf8 steps is =
      let a = then_was (checked_kind kind) _ steps is in
      let b = then_was (checked_names (target ∷ sources)) _ steps a.2 in
      let c = then_was (not_taken (targets_named p target)) _ steps b.2 in
      let d = then_was (number_in p folder) _ steps c.2 in
      let same : append_steps kind (target ∷ distinct sources) d.0 ≡ steps = let h = d.2 in cc in
      let texts = All-cons IsUtf8 target (distinct sources) (All-head IsUtf8 target sources utf8) (All-distinct IsUtf8 [] sources (All-tail IsUtf8 target sources utf8)) in
      subst (λ ss. AreDoable ss (plain_trees old)) same
      (appended_doable kind (kind_checked kind a.0 a.1) (target ∷ distinct sources) texts d.0 (numbered p folder d.0 d.1))

  -- ---- a target that goes

  gone_there : (blank : BlankLines) (f : tree.File Span) (path : List ℕ) (n : ℕ) (s : Statement Span) → option_and_then (λ b. statement_in b.inside n) (block_at f path) ≡ Some s
      → (now : Plain) × (edited (RemoveStatement blank path n) (erase f) ≡ Some now)
  gone_there blank f path n s is =
      let o = and-then-some (λ (b : BlockAt Span). statement_in b.inside n) (block_at f path) s is in
      let b = o.0 in
      let q = map-some (λ (c : BlockAt Nowhere). c.inside) (block_at (erase f) path) (erase_block b.inside) (blocks-erase f path ∙ ap (option_map (λ (c : BlockAt Span). erase_block c.inside)) o.1) in
      let there : statement_in q.0.inside n ≡ Some (erase_statement s) = ap (λ c. statement_in c n) q.2 ∙ statement_erased b.inside n ∙ ap (option_map erase_statement) o.2 in (
        q.0.back (block_without q.0.inside n),
        ap (option_and_then (λ (c : BlockAt Nowhere). option_map (λ t. c.back (block_without c.inside n)) (statement_in c.inside n))) q.1
            ∙ ap (option_map (λ t. q.0.back (block_without q.0.inside n))) there,
      )

  -- with any blank lines beside it
  pub statement_doable : (blank : BlankLines) (line : StatementPlace) (s : Statement Span) → statement_there p line ≡ Some s
      → AreDoable (record { file = line.block.file; edit = RemoveStatement blank line.block.path.steps line.number } ∷ []) (plain_trees old)
  statement_doable blank line s is =
      let o = and-then-some (λ (f : BuildFile Span). option_and_then (λ b. statement_in b.inside line.number) (block_at f.tree line.block.path.steps)) (nth_file p line.block.file) s is in
      let g = gone_there blank o.0.tree line.block.path.steps line.number s o.2 in
      removal_doable (plain_trees old) line.block.file blank line.block.path.steps line.number (erase o.0.tree) g.0 (plain_there old.files old.parsed line.block.file o.0 o.1) (trees_stand old.files old.parsed whole.parsed) g.1

  removed_doable : (c : Placed (Call Span)) (steps : List Step) → target_removed p c ≡ Ok steps → AreDoable steps (plain_trees old)
  removed_doable c steps is =
      let a = then_was (ok_or (holder p c.place) NotStatement) _ steps is in
      let h = a.0 in
      let b = then_was (not_in_use p h.statement h.held) _ steps a.2 in
      let same : statement_removal h.statement ≡ steps = let g = b.2 in cc in
      let o = and-then-some (λ line. option_map (λ held. record { statement = line; held = held }) (option_and_then held_by (statement_there p line))) (statement_of c.place) h (some_there (holder p c.place) h a.1) in
      let m = map-some (λ held. record { statement = o.0; held = held }) (option_and_then held_by (statement_there p o.0)) h o.2 in
      let s = and-then-some held_by (statement_there p o.0) m.0 m.1 in
      let here = statement_doable Stay o.0 s.0 s.1 in
      subst (λ ss. AreDoable ss (plain_trees old)) (ap (λ (k : Holder). statement_removal k.statement) m.2 ∙ same) here

  -- ---- what the commands mean

  module _ {V : Type 0} (list : V → List ListStep) (planned : Result (List Step) Refusal) where
    pub addition_means : (target kind folder : List ℕ) (sources : List (List ℕ)) → planned ≡ target_added p target kind folder sources
        → (r : Result V Refusal) → IfOk r (λ v. All IsUtf8 (target ∷ sources)) → IfOk r (λ v. AreMeant (target_added p target kind folder sources) (list v)) → IfOk r (λ v. ArePlanned old planned (list v))
    addition_means target kind folder sources is (Ok v) utf8 meant = record {
      steps = meant.steps;
      are_planned = is ∙ meant.is;
      are_doable = record { bare = meant.bare; doable = added_doable target kind folder sources utf8 meant.steps meant.is };
    }
    addition_means target kind folder sources is (Err e) utf8 meant = tt

    pub removal_means : (target : CallName) → planned ≡ then_ok (the_call p role.Target target) (λ c. target_removed p c)
        → (r : Result V Refusal) → IfOk r (λ v. AreMeant (then_ok (the_call p role.Target target) (λ c. target_removed p c)) (list v)) → IfOk r (λ v. ArePlanned old planned (list v))
    removal_means target is (Ok v) meant =
        let c = then_was (the_call p role.Target target) (λ d. target_removed p d) meant.steps meant.is in
        record { steps = meant.steps; are_planned = is ∙ meant.is; are_doable = record { bare = meant.bare; doable = removed_doable c.0 meant.steps c.2 } }
    removal_means target is (Err e) meant = tt
