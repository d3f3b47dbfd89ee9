-- A target that is added is the one that its name names.
use Rattle.meson_targets.proofs.Words.{◌≡◌, ℕ, zero, suc, ◌+◌, true, false, List, [], ◌∷◌, ◌++◌, append-nil, append_assoc, map, Option, Some, None, refl, sym}
use Rattle.meson_targets.proofs.Words.{ap, ap₂, ◌∙◌, arith, Bool, ◌&&◌, bytes_eq, codes, if◌then◌else◌, not, option_and_then, option_map, Result, Ok, Err}
use Rattle.meson_targets.proofs.Words.{cons_option, IsUtf8, filter_map-append, bytes_eq-Decides, then_ok, File, literal_value, Nowhere, Plain, plain, Statement}
use Rattle.meson_targets.proofs.Words.{Statements, no_statements, statement, block, file, arguments_of, erase, view, Parsed, some-injective, and_last}
use Rattle.meson_targets.proofs.Words.{file_and_last, Append, Written, edited, Call, call_of, all_chosen, chosen, is, part_call, only_one, named_trees, project}
use Rattle.meson_targets.proofs.Words.{views, assigned_values, or_else, with_name, Part, parts_of_arguments, parts_of_file, parts, parts_from}
use Rattle.meson_targets.proofs.Words.{parts_of_statement, parts_of_statements, Placed, Project, child, place, placed, one_of, target_functions, with_role}
use Rattle.meson_targets.proofs.Words.{CallRef, Refusal, WrongKind, checked_names, distinct, plain_trees, Step, all_stepped, changed_at, string_of, named_alike}
use Rattle.meson_targets.proofs.Words.{named_among, parts_erased, then_was, AddedTargetsAreNamed, call_with_texts, append_steps, checked_kind, kind_key}
use Rattle.meson_targets.proofs.Words.{not_taken, number_in, target_statement, targets_named, written_target}
use Rattle.meson_calls.specs.declared.call.Role.TheVariants as role

-- ---- lists that are joined

joined : {S : Type 0} (id : List ℕ) (xs ys : List (Placed (Part S))) → named_among id (xs ++ ys) ≡ named_among id xs ++ named_among id ys
joined id xs ys =
    ap (λ l. all_chosen (with_name id) (all_chosen (with_role role.Target) l)) (filter_map-append (chosen part_call) xs ys)
    ∙ ap (all_chosen (with_name id)) (filter_map-append (chosen (with_role role.Target)) (all_chosen part_call xs) (all_chosen part_call ys))
    ∙ filter_map-append (chosen (with_name id)) (all_chosen (with_role role.Target) (all_chosen part_call xs)) (all_chosen (with_role role.Target) (all_chosen part_call ys))

both_empty : {A : Type 0} (xs ys : List A) → xs ++ ys ≡ [] → (xs ≡ []) × (ys ≡ [])
both_empty [] ys none = (refl, none)
both_empty (x ∷ xs) ys none = absurd cc

none_mapped : {A B : Type 0} (f : A → B) (xs : List A) → xs ≡ [] → map f xs ≡ []
none_mapped f xs none = ap (map f) none

-- ---- a statement at the end of a file

statements_and_last : (p : CallRef) (n : ℕ) (list : Statements Nowhere) (x : Statement Nowhere) → (k : ℕ) × (parts_of_statements p n (and_last list x) ≡ parts_of_statements p n list ++ parts_of_statement (child p k) x)
statements_and_last p n no_statements x = (n, append-nil (parts_of_statement (child p n) x))
statements_and_last p n (statement s more) x =
    let r = statements_and_last p (n + 1) more x in
    (r.0, ap (λ l. parts_of_statement (child p n) s ++ l) r.1 ∙ sym (append_assoc (parts_of_statement (child p n) s) (parts_of_statements p (n + 1) more) (parts_of_statement (child p r.0) x)))

last_in : (n : ℕ) (t : Plain) (x : Statement Nowhere) → (k : ℕ) × (parts_of_file n (file_and_last t x) ≡ parts_of_file n t ++ parts_of_statement (child (place n []) k) x)
last_in n (file s (block b list)) x = statements_and_last (place n []) 0 list x

-- where no call has the name, the calls that have it then are those of the new statement
record Comes (id : List ℕ) (n : ℕ) (p : Project Nowhere) (x : Statement Nowhere) (i : ℕ) : Type 0 where
  at : CallRef
  in_file : at.file ≡ n + i
  are : named_among id (parts_from n p) ≡ named_among id (parts_of_statement at x)

module _ (id : List ℕ) (new : Written (Statement Nowhere)) where
  comes : (files : List File) (parsed : List Parsed) (n i : ℕ) (after : List Plain) → changed_at i (edited (Append new)) (map erase (views files parsed)) ≡ Some after
      → named_among id (parts_from n (named_trees files (map erase (views files parsed)))) ≡ [] → Comes id n (named_trees files after) new.node i
  comes [] parsed n i after is none = absurd cc
  comes (f ∷ files) [] n i after is none = absurd cc
  comes (f ∷ files) (d ∷ parsed) n zero after is none =
      let t = erase (view f.bytes d) in
      let rest = map erase (views files parsed) in
      let same : file_and_last t new.node ∷ rest ≡ after = some-injective _ _ is in
      let l = last_in n t new.node in
      let here = parts_of_statement (child (place n []) l.0) new.node in
      let behind = parts_from (n + 1) (named_trees files rest) in
      let empty = both_empty (named_among id (parts_of_file n t)) (named_among id behind) (sym (joined id (parts_of_file n t) behind) ∙ none) in
      record {
        at = child (place n []) l.0;
        in_file = omega arith;
        are = ap (λ ts. named_among id (parts_from n (named_trees (f ∷ files) ts))) (sym same)
            ∙ ap (λ m. named_among id (m ++ behind)) l.1 ∙ joined id (parts_of_file n t ++ here) behind
            ∙ ap₂ (λ l m. l ++ m) (joined id (parts_of_file n t) here ∙ ap (λ m. m ++ named_among id here) empty.0) empty.1 ∙ append-nil (named_among id here);
      }
  comes (f ∷ files) (d ∷ parsed) n (suc i) after is none =
      later (λ ts changed empty. comes files parsed (n + 1) i ts changed empty) (changed_at i (edited (Append new)) (map erase (views files parsed))) refl is
    where
      later : ((ts : List Plain) → changed_at i (edited (Append new)) (map erase (views files parsed)) ≡ Some ts → named_among id (parts_from (n + 1) (named_trees files (map erase (views files parsed)))) ≡ [] → Comes id (n + 1) (named_trees files ts) new.node i)
          → (o : Option (List Plain)) → changed_at i (edited (Append new)) (map erase (views files parsed)) ≡ o → option_map (λ ys. erase (view f.bytes d) ∷ ys) o ≡ Some after → Comes id n (named_trees (f ∷ files) after) new.node (suc i)
      later on None changed made = absurd cc
      later on (Some ts) changed made =
          let t = erase (view f.bytes d) in
          let behind = parts_from (n + 1) (named_trees files (map erase (views files parsed))) in
          let same : t ∷ ts ≡ after = some-injective _ _ made in
          let empty = both_empty (named_among id (parts_of_file n t)) (named_among id behind) (sym (joined id (parts_of_file n t) behind) ∙ none) in
          let c = on ts changed empty.1 in
          let counted = c.in_file in
          record {
            at = c.at;
            in_file = omega (arith, counted);
            are = ap (λ us. named_among id (parts_from n (named_trees (f ∷ files) us))) (sym same)
                ∙ joined id (parts_of_file n t) (parts_from (n + 1) (named_trees files ts)) ∙ ap (λ l. l ++ named_among id (parts_from (n + 1) (named_trees files ts))) empty.0 ∙ c.are;
          }

-- ---- the calls of the new statement

no_calls : (p : CallRef) (n : ℕ) (texts : List (List ℕ)) → all_chosen part_call (parts_of_arguments p n (arguments_of (map plain (map string_of texts)))) ≡ []
no_calls p n [] = refl
no_calls p n (t ∷ texts) = no_calls p (n + 1) texts

module _ (kind name : List ℕ) (more : List (List ℕ)) (utf8 : IsUtf8 name) (known : one_of target_functions kind ≡ true) where
  abbrev it : Call Nowhere
  it = call_with_texts kind (name ∷ more)

  one_call : (q : CallRef) → named_among name (parts_of_statement q (target_statement kind (name ∷ more))) ≡ placed (child q 0) it ∷ []
  one_call q =
      ap (λ l. all_chosen (with_name name) (all_chosen (with_role role.Target) (placed (child q 0) it ∷ l))) (no_calls (child q 0) 0 (name ∷ more))
      ∙ ap (λ b. all_chosen (with_name name) (cons_option (option_map (placed (child q 0)) (if b && true then Some it else None)) [])) known
      ∙ ap (λ t. cons_option (option_map (placed (child q 0)) (if is name t then Some it else None)) []) (literal_value name utf8)
      ∙ ap (λ b. cons_option (option_map (placed (child q 0)) (if b then Some it else None)) []) ((bytes_eq-Decides name name).1 refl)

-- ---- the command

abbrev ok_of : {A : Type 0} → A → Result A Refusal
ok_of a = Ok a

ok_is : {A : Type 0} (a b : A) → ok_of a ≡ Ok b → a ≡ b
ok_is a b same = cc

none_taken : {X : Type 0} (xs : List X) → not_taken xs ≡ Ok tt → xs ≡ []
none_taken [] done = refl
none_taken (x ∷ xs) done = absurd cc

abbrev kind_if : Bool → Result (Unit {0}) Refusal
kind_if t = if t then Ok tt else Err (WrongKind kind_key)

kind_by : (a b : Bool) → kind_if (a && not b) ≡ Ok tt → a ≡ true
kind_by true b done = refl
kind_by false b done = absurd cc

pub added-targets-are-named : AddedTargetsAreNamed
added-targets-are-named old name kind folder sources steps after utf8 made done =
    let p = project old in
    let place_it : ℕ → Result (List Step) Refusal = λ file. Ok (append_steps kind (name ∷ distinct sources) file) in
    let a = then_was (checked_kind kind) (λ _. then_ok (checked_names (name ∷ sources)) (λ _. then_ok (not_taken (targets_named p name)) (λ _. then_ok (number_in p folder) place_it))) steps made in
    let b = then_was (checked_names (name ∷ sources)) (λ _. then_ok (not_taken (targets_named p name)) (λ _. then_ok (number_in p folder) place_it)) steps a.2 in
    let c = then_was (not_taken (targets_named p name)) (λ _. then_ok (number_in p folder) place_it) steps b.2 in
    let d = then_was (number_in p folder) place_it steps c.2 in
    let new = written_target kind (name ∷ distinct sources) in
    let stepped : all_stepped (append_steps kind (name ∷ distinct sources) d.0) (plain_trees old) ≡ Some after = ap (λ s. all_stepped s (plain_trees old)) (ok_is (append_steps kind (name ∷ distinct sources) d.0) steps d.2) ∙ done in
    let none : named_among name (parts_from 0 (named_trees old.files (plain_trees old))) ≡ [] =
    ap (named_among name) (parts_erased 0 old.files (views old.files old.parsed)) ∙ named_alike name (parts p) ∙ none_mapped _ (targets_named p name) (none_taken (targets_named p name) c.1) in
    let k = comes name new old.files old.parsed 0 d.0 after (changed (changed_at d.0 (edited (Append new)) (plain_trees old)) after stepped) none in
    let only = k.are ∙ one_call kind name (distinct sources) utf8 (kind_by (one_of target_functions kind) (bytes_eq kind (codes "build_target")) a.1) k.at in
    let by_variable = all_chosen (with_role role.Target) (all_chosen call_of (assigned_values (named_trees old.files after) name)) in
    let counted = k.in_file in
    (d.0, d.1, record { place = child k.at 0; is_call = ap (λ l. only_one (or_else l by_variable)) only; in_file = omega (arith, counted) })
  where
    changed : (o : Option (List Plain)) (ts : List Plain) → option_and_then (all_stepped []) o ≡ Some ts → o ≡ Some ts
    changed None ts same = absurd cc
    changed (Some us) ts same = same
