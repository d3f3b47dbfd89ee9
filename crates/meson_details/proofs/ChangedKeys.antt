-- The keyword arguments that commands change have names that are texts.
use Rattle.std.proofs.Common.{◌≡◌, ℕ, Bool, true, ◌||◌, List, [], ◌∷◌, refl, subst, ⊎_elim}
use Rattle.std.specs.List.{list_all}
use Rattle.std.specs.Str.{IsUtf8}
use Rattle.std.proofs.lemmas.Bool.{and_parts, or_cases}
use Rattle.std.proofs.lemmas.Slice.Eq.{bytes_eq-Decides}
use Rattle.meson_lex.specs.Bytes.{is_word_byte}
use Rattle.meson_calls.specs.declared.call.Role.{Role}
use Rattle.meson_calls.specs.declared.call.Role.TheVariants as role
use Rattle.meson_calls.specs.Roles.{one_of}
use Rattle.meson_calls.specs.Keys.{text_keys, switch_keys, text_list_keys, identifier_list_keys, is_key}
use Rattle.meson_calls.proofs.IdentifierTexts.{key_text}

abbrev are_words : List (List ℕ) → Bool
are_words = list_all (list_all is_word_byte)

named_text : (names : List (List ℕ)) (key : List ℕ) → are_words names ≡ true → one_of names key ≡ true → IsUtf8 key
named_text [] key all is = absurd cc
named_text (n ∷ names) key all is =
    let both = and_parts (list_all is_word_byte n) (are_words names) all in
    ⊎_elim (λ here. subst IsUtf8 ((bytes_eq-Decides n key).0 here) (key_text n both.0)) (λ there. named_text names key both.1 there) (or_cases _ _ is)

one_text : (a b d e : List (List ℕ)) (key : List ℕ) → are_words a ≡ true → are_words b ≡ true → are_words d ≡ true → are_words e ≡ true →
    (one_of a key || (one_of b key || (one_of d key || one_of e key))) ≡ true → IsUtf8 key
one_text a b d e key in_a in_b in_d in_e is =
    ⊎_elim (named_text a key in_a)
    (λ more. ⊎_elim (named_text b key in_b) (λ others. ⊎_elim (named_text d key in_d) (named_text e key in_e) (or_cases _ _ others)) (or_cases _ _ more)) (or_cases _ _ is)

pub changed_key_text : (r : Role) (key : List ℕ) → is_key r key ≡ true → IsUtf8 key
changed_key_text role.Project key is =
    one_text (text_keys role.Project) (switch_keys role.Project) (text_list_keys role.Project) (identifier_list_keys role.Project) key refl refl refl refl is
changed_key_text role.Dependency key is =
    one_text (text_keys role.Dependency) (switch_keys role.Dependency) (text_list_keys role.Dependency) (identifier_list_keys role.Dependency) key refl refl refl refl is
changed_key_text role.Target key is =
    one_text (text_keys role.Target) (switch_keys role.Target) (text_list_keys role.Target) (identifier_list_keys role.Target) key refl refl refl refl is
