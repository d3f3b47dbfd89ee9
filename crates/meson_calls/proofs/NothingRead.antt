-- A note whose words stand in bytes tells nothing of a word that stands nowhere in them.
use Rattle.meson_calls.proofs.Words.{false, codes, ◌&&◌, ◌≡◌, ℕ, List, [], ◌∷◌, Bool, true, Option, Some, None, refl, ap, ◌∙◌, Span, string_kind, call_of}
use Rattle.meson_calls.proofs.Words.{first_literal, is, is_role_call, note_has_name, note_has_role, note_sets_call, Note, a_call, an_assignment, a_loop}
use Rattle.meson_calls.proofs.Words.{has_role, HasNone, Role}
use Rattle.meson_calls.specs.declared.call.Role.TheVariants as role
use Rattle.meson_calls.proofs.Spelled.{IsPart, differs, differs_back}
use Rattle.meson_calls.proofs.SpelledLiterals.{literal_part}
use Rattle.meson_calls.proofs.StandingNotes.{NoteStands}

and_false : (b : Bool) → (b && false) ≡ false
and_false true = refl
and_false false = refl

module _ (bytes : List ℕ) where
  -- ---- what an id names

  is_another : (id : List ℕ) → HasNone id bytes → (o : Option (List ℕ)) → ((y : List ℕ) → o ≡ Some y → IsPart bytes y) → is id o ≡ false
  is_another id none None part = refl
  is_another id none (Some y) part = differs_back id bytes y none (part y refl)

  pub names_nothing : (r : Role) (id : List ℕ) → HasNone id bytes → HasNone (92 ∷ []) bytes → (n : Note Span) → NoteStands bytes n → note_has_name r id n ≡ false
  names_nothing r id none plain (a_call c) stands =
      let part : (y : List ℕ) → first_literal c ≡ Some y → IsPart bytes y = λ y is. let v = stands.first y is in literal_part bytes plain v.place (string_kind v.kind) y v.is in
      ap (λ b. has_role r c && b) (is_another id none (first_literal c) part) ∙ and_false (has_role r c)
  names_nothing r id none plain (an_assignment y sets e) stands = refl
  names_nothing r id none plain (a_loop xs) stands = refl

  pub value_unnamed : (r : Role) (id : List ℕ) → HasNone id bytes → (n : Note Span) → NoteStands bytes n → note_sets_call r id n ≡ false
  value_unnamed r id none (a_call c) stands = refl
  value_unnamed r id none (an_assignment y sets e) stands =
      ap (λ b. sets && (b && is_role_call r (call_of e))) (differs id bytes y none stands) ∙ and_false sets
  value_unnamed r id none (a_loop xs) stands = refl

  pub no_project : HasNone (codes "project") bytes → (n : Note Span) → NoteStands bytes n → note_has_role role.Project n ≡ false
  no_project none (a_call c) stands = differs (codes "project") bytes c.function none stands.function
  no_project none (an_assignment y sets e) stands = refl
  no_project none (a_loop xs) stands = refl
