-- Names that are added to a target are not refused for a name once they are checked.
use Rattle.std.proofs.Common.{◌≡◌, ℕ, false, List, [], ◌∷◌, Option, Some, None}
use Rattle.std.specs.Prelude.{Bool}
use Rattle.meson_syntax.specs.Tree.{Expression}
use Rattle.meson_calls.specs.Calls.{Call, Numbered, keyword}
use Rattle.meson_calls.specs.Calls as calls
use Rattle.meson_calls.specs.Project.{Placed, Project}
use Rattle.meson_calls.specs.declared.call.CallRef.{CallRef}
use Rattle.meson_calls.specs.declared.refusal.Refusal.{Refusal}
use Rattle.meson_calls.specs.declared.refusal.Refusal.TheVariants as refusal
use Rattle.meson_sources.specs.SourceEdits.{behind_value, extra_inserted, extra_key, without_home}
use Rattle.meson_steps.specs.Names.{checked_names}
use Rattle.meson_explaining.proofs.NameReasons.{Free, OfNames}

module _ (q : Refusal → Bool) (apart : OfNames q) where
  value_free : (c : CallRef) (n : ℕ) (text : Option (List ℕ)) (names : List (List ℕ)) → Free q (behind_value c n text names)
  value_free c n None names = apart.not_literal extra_key
  value_free c n (Some text) names = tt

  home_free : {S : Type 0} (p : Project S) (c : CallRef) (vs : List (Numbered (Expression S))) (names : List (List ℕ)) → Free q (without_home p c vs names)
  home_free p c [] names = tt
  home_free p c (v ∷ more) names = value_free c v.number (calls.literal_of v.value) names

  pub inserted_free : {S : Type 0} (p : Project S) (c : Placed (Call S)) (list : Option CallRef) (names : List (List ℕ)) → Free q (extra_inserted p c list names)
  inserted_free p c list [] = tt
  inserted_free p c None (name ∷ more) = home_free p c.place (keyword extra_key c.it) (name ∷ more)
  inserted_free p c (Some list) (name ∷ more) = tt

  pub names_valid : q refusal.BadName ≡ false → (names : List (List ℕ)) → Free q (checked_names names)
  names_valid valid [] = tt
  names_valid valid ([] ∷ more) = valid
  names_valid valid ((b ∷ bs) ∷ more) = names_valid valid more
