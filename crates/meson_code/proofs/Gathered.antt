-- The variables that a statement reads, gathered from one note after another.
use Rattle.std.proofs.Common.{◌≡◌, ℕ, ◌+◌, ◌<◌, List, [], ◌∷◌, ◌++◌, length, get_or, take, Option, Some, None, refl, sym, ap, ◌∙◌, append-nil}
use Rattle.std.specs.Prelude.{Bool, true, false, if◌then◌else◌}
use Rattle.std.specs.List.{cons_option, filter}
use Rattle.std.proofs.lemmas.List.{map-append}
use Rattle.meson_lex.specs.declared.kinds.Span.{Span}
use Rattle.meson_calls.specs.declared.note.Note as code
use Rattle.meson_calls.specs.Notes.{Note, note_view, note_views}
use Rattle.meson_calls.specs.Project.{Placed}
use Rattle.meson_calls.proofs.Loads.{take_more}
use Rattle.meson_code.specs.Unused.{assigned_name, assigned_names}

module _ (p : List ℕ → Bool) where
  gathered_both : (ns : List (Placed (Note Span))) (n : Placed (Note Span))
      → filter p (assigned_names (ns ++ n ∷ [])) ≡ filter p (assigned_names ns) ++ filter p (assigned_names (n ∷ []))
  gathered_both [] n = refl
  gathered_both (m ∷ ns) n = go (assigned_name m.it) (gathered_both ns n)
    where
      kept : (b : Bool) (x : List ℕ) → filter p (assigned_names (ns ++ n ∷ [])) ≡ filter p (assigned_names ns) ++ filter p (assigned_names (n ∷ []))
          → (if b then x ∷ filter p (assigned_names (ns ++ n ∷ [])) else filter p (assigned_names (ns ++ n ∷ [])))
          ≡ (if b then x ∷ filter p (assigned_names ns) else filter p (assigned_names ns)) ++ filter p (assigned_names (n ∷ []))
      kept true x later = ap (λ r. x ∷ r) later
      kept false x later = later

      go : (o : Option (List ℕ)) → filter p (assigned_names (ns ++ n ∷ [])) ≡ filter p (assigned_names ns) ++ filter p (assigned_names (n ∷ []))
          → filter p (cons_option o (assigned_names (ns ++ n ∷ []))) ≡ filter p (cons_option o (assigned_names ns)) ++ filter p (assigned_names (n ∷ []))
      go None later = later
      go (Some x) later = kept (p x) x later

  module _ (notes : List code.Note) (i : ℕ) (d : code.Note) (within : i < length notes) where
    abbrev pub gathered : ℕ → List (List ℕ)
    gathered k = filter p (assigned_names (note_views (take k notes)))

    more : (o : Option (List ℕ)) → o ≡ assigned_name (note_view (get_or notes i d)).it → gathered (i + 1) ≡ gathered i ++ filter p (cons_option o [])
    more o is =
        ap (λ ns. filter p (assigned_names (note_views ns))) (take_more notes i d within)
        ∙ ap (λ vs. filter p (assigned_names vs)) (map-append note_view (take i notes) (get_or notes i d ∷ []))
        ∙ gathered_both (note_views (take i notes)) (note_view (get_or notes i d))
        ∙ ap (λ v. gathered i ++ filter p (cons_option v [])) (sym is)

    pub none_more : None ≡ assigned_name (note_view (get_or notes i d)).it → gathered i ≡ gathered (i + 1)
    none_more is = sym (more None is ∙ append-nil (gathered i))

    module _ (x : List ℕ) (is : Some x ≡ assigned_name (note_view (get_or notes i d)).it) where
      pub one_more : p x ≡ true → gathered i ++ x ∷ [] ≡ gathered (i + 1)
      one_more reads = sym (more (Some x) is ∙ ap (λ b. gathered i ++ (if b then x ∷ [] else [])) reads)

      pub not_more : p x ≡ false → gathered i ≡ gathered (i + 1)
      not_more reads = sym (more (Some x) is ∙ ap (λ b. gathered i ++ (if b then x ∷ [] else [])) reads ∙ append-nil (gathered i))
