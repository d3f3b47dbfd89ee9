-- What goes after a statement is needed by nothing when it is its turn.
use Rattle.std.proofs.Common.{◌≡◌, ℕ, zero, suc, List, [], ◌∷◌, ◌++◌, Option, Some, None, refl, sym, ap, ◌∙◌, subst}
use Rattle.std.specs.Prelude.{Bool, true, false, not, ◌&&◌, if◌then◌else◌, unwrap_or}
use Rattle.std.specs.List.{Contains}
use Rattle.std.specs.Option.{option_map_or, option_or}
use Rattle.meson_splice.specs.declared.file_set.File.{File}
use Rattle.meson_syntax.specs.Tree.{Nowhere, Plain, Statement}
use Rattle.meson_syntax.proofs.parsing.Steps.{some-injective}
use Rattle.meson_syntax.proofs.paths.Reaching.{and-then-some}
use Rattle.meson_edit.specs.Edits.{without_statement}
use Rattle.meson_calls.specs.declared.call.CallRef.{CallRef}
use Rattle.meson_calls.specs.Notes.{Note, notes}
use Rattle.meson_calls.specs.Parts.{Part, parts}
use Rattle.meson_calls.specs.Project.{Placed, Project, child}
use Rattle.meson_steps.specs.Steps.{Step, all_stepped, changed_at, stepped}
use Rattle.meson_targets.specs.TargetEdits.{StatementPlace, is_in_statement, is_used_outside, part_uses, statement_of, statement_there}
use Rattle.meson_places.specs.Uses.{is_formatted, is_named, placeholder, source_holds}
use Rattle.meson_code.specs.Anchors.{holds_value, if_holds_value, statement_with}
use Rattle.meson_code.specs.Removal.{removal_step}
use Rattle.meson_code.specs.Unused.{first_setting_among, if_unused, is_unused, names_read, next_unused, project_of, sets_name, trees_without, unused_setting, unused_steps}
use Rattle.meson_code.specs.UnusedLaws.{AreCleared, IsUnneeded, UnusedAreUnneeded, none, one}
use Rattle.meson_code.proofs.Tests.{at_front, behind, some_test}

-- ---- tests joined

both_true : (b c : Bool) → (b && c) ≡ true → (b ≡ true) × (c ≡ true)
both_true true c is = (refl, is)
both_true false c is = absurd (let no : ⊥ = cc in no)

not_true : (b : Bool) → not b ≡ true → b ≡ false
not_true true is = absurd (let no : ⊥ = cc in no)
not_true false is = refl

not_both : (b : Bool) → b ≡ true → b ≡ false → ⊥
not_both b t f = let no : ⊥ = cc in no

module _ (files : List File) (p : Project Nowhere) where
  -- ---- the statement that sets it

  record Sets (x : List ℕ) (ns : List (Placed (Note Nowhere))) (a : StatementPlace) : Type 0 where
    note : Placed (Note Nowhere)
    is_note : Contains ns note
    sets : sets_name x note.it ≡ true
    is_statement : statement_of (child note.place 0) ≡ Some a

  held : (a b : StatementPlace) (o : Option (Statement Nowhere)) → if_holds_value a o ≡ Some b → a ≡ b
  held a b None is = absurd (let no : ⊥ = cc in no)
  held a b (Some s) is = go (holds_value s) is
    where
      go : (t : Bool) → (if t then Some a else None) ≡ Some b → a ≡ b
      go true h = some-injective a b h
      go false h = absurd (let no : ⊥ = cc in no)

  with_of : (c : CallRef) (a : StatementPlace) → statement_with p c ≡ Some a → statement_of c ≡ Some a
  with_of c a is =
      let o = and-then-some (λ (b : StatementPlace). if_holds_value b (statement_there p b)) (statement_of c) a is in
      o.1 ∙ ap Some (held o.0 a (statement_there p o.0) o.2)

  module _ (x : List ℕ) (a : StatementPlace) where
    first_sets : (ns : List (Placed (Note Nowhere))) → first_setting_among p x ns ≡ Some a → Sets x ns a
    first_sets [] is = absurd (let no : ⊥ = cc in no)
    first_sets (n ∷ ns) is = go (sets_name x n.it) refl is (first_sets ns)
      where
        found : (o r : Option StatementPlace) → sets_name x n.it ≡ true → statement_with p (child n.place 0) ≡ o → option_or o r ≡ Some a → (r ≡ Some a → Sets x ns a) → Sets x (n ∷ ns) a
        found None r sets with h later = let s = later h in record { note = s.note; is_note = behind n ns s.note s.is_note; sets = s.sets; is_statement = s.is_statement }
        found (Some b) r sets with h later = record { note = n; is_note = at_front n ns n refl; sets = sets; is_statement = with_of (child n.place 0) a (with ∙ h) }

        go : (t : Bool) → sets_name x n.it ≡ t → option_or (if t then statement_with p (child n.place 0) else None) (first_setting_among p x ns) ≡ Some a
            → (first_setting_among p x ns ≡ Some a → Sets x ns a) → Sets x (n ∷ ns) a
        go true t h later = found (statement_with p (child n.place 0)) (first_setting_among p x ns) t refl h later
        go false t h later = let s = later h in record { note = s.note; is_note = behind n ns s.note s.is_note; sets = s.sets; is_statement = s.is_statement }

    -- ---- nothing else needs it

    unneeded : Sets x (notes p) a → is_unused files p x a ≡ true → IsUnneeded files p x a
    unneeded s is =
        let u = both_true (not (is_used_outside p a x)) (not (is_named x (notes p)) && not (is_formatted x files)) is in
        let v = both_true (not (is_named x (notes p))) (not (is_formatted x files)) u.1 in
        record {
          note = s.note;
          is_note = s.is_note;
          sets = s.sets;
          is_statement = s.is_statement;
          unused = λ q c outside uses.
              not_both (is_used_outside p a x)
              (some_test (λ (r : Placed (Part Nowhere)). not (is_in_statement a r.place) && part_uses x r.it) (parts p) q c (ap (λ b. not b && part_uses x q.it) outside ∙ uses))
              (not_true (is_used_outside p a x) u.0);
          unnamed = not_true (is_named x (notes p)) v.0;
          unformatted = λ f c holds.
              not_both (is_formatted x files) (some_test (λ (g : File). source_holds (placeholder x) g.bytes) files f c holds) (not_true (is_formatted x files) v.1);
        }

    setting_unneeded : unused_setting files p x ≡ Some a → IsUnneeded files p x a
    setting_unneeded is = go (first_setting_among p x (notes p)) refl is
      where
        kept : (b : StatementPlace) (t : Bool) → is_unused files p x b ≡ t → first_setting_among p x (notes p) ≡ Some b → (if t then Some b else None) ≡ Some a → IsUnneeded files p x a
        kept b true t found h =
            let same : b ≡ a = some-injective b a h in
            unneeded (first_sets (notes p) (found ∙ h)) (subst (λ c. is_unused files p x c ≡ true) same t)
        kept b false t found h = absurd (let no : ⊥ = cc in no)

        go : (o : Option StatementPlace) → first_setting_among p x (notes p) ≡ o → if_unused files p x o ≡ Some a → IsUnneeded files p x a
        go None found h = absurd (let no : ⊥ = cc in no)
        go (Some b) found h = kept b (is_unused files p x b) refl found h

  next_unneeded : (names : List (List ℕ)) (a : StatementPlace) → next_unused files p names ≡ Some a → (x : List ℕ) × IsUnneeded files p x a
  next_unneeded [] a is = absurd (let no : ⊥ = cc in no)
  next_unneeded (x ∷ names) a is = go (unused_setting files p x) refl is (next_unneeded names a)
    where
      go : (o : Option StatementPlace) → unused_setting files p x ≡ o → option_or o (next_unused files p names) ≡ Some a
          → (next_unused files p names ≡ Some a → (y : List ℕ) × IsUnneeded files p y a) → (y : List ℕ) × IsUnneeded files p y a
      go None found h later = later h
      go (Some b) found h later = (x, setting_unneeded x a (found ∙ h))

-- ---- one after another

abbrev later : ℕ → List File → List (List ℕ) → List Plain → StatementPlace → List Step
later turns files names trees a = unused_steps turns files (names ++ names_read (project_of trees) a) (trees_without a trees)

pub unused_are_unneeded : UnusedAreUnneeded
unused_are_unneeded zero files names trees last made = subst (AreCleared files trees) (some-injective trees last made) (none trees)
unused_are_unneeded (suc turns) files names trees last made = go (next_unused files (project_of trees) names) refl made (unused_are_unneeded turns)
  where
    go : (o : Option StatementPlace) → next_unused files (project_of trees) names ≡ o
        → all_stepped (option_map_or (λ a. removal_step (project_of trees) a ∷ later turns files names trees a) o []) trees ≡ Some last
        → ((fs : List File) (ns : List (List ℕ)) (ts us : List Plain) → all_stepped (unused_steps turns fs ns ts) ts ≡ Some us → AreCleared fs ts us)
        → AreCleared files trees last
    go None is h more = subst (AreCleared files trees) (some-injective trees last h) (none trees)
    go (Some a) is h more =
        let u = next_unneeded files (project_of trees) names a is in
        let rest = later turns files names trees a in
        let o = and-then-some (all_stepped rest) (stepped (removal_step (project_of trees) a) trees) last h in
        let same : trees_without a trees ≡ o.0 = ap (λ v. unwrap_or v trees) o.1 in
        let cleared = more files (names ++ names_read (project_of trees) a) (trees_without a trees) last
        (subst (λ ts. all_stepped rest ts ≡ Some last) (sym same) o.2) in
        one trees (trees_without a trees) last u.0 a u.1
        (subst (λ ts. changed_at a.block.file (without_statement a.block.path.steps a.number) trees ≡ Some ts) (sym same) o.1) cleared
