-- The keyword arguments that commands change are identifiers, so they may be written.
use Rattle.meson_keywords.proofs.Words.{◌≡◌, ℕ, true, false, List, [], ◌∷◌, refl, subst, Bool, ◌||◌, bytes_eq, list_all, IsUtf8, and_parts, bytes_eq-Decides}
use Rattle.meson_keywords.proofs.Words.{text_keys, switch_keys, text_list_keys, identifier_list_keys, one_of, Role, IsKey, is_identifier}
use Rattle.meson_calls.specs.declared.call.Role.TheVariants as role
use Rattle.meson_steps.proofs.Identifiers.{identifier_true}

one_is : (ks : List (List ℕ)) (key : List ℕ) → list_all is_identifier ks ≡ true → one_of ks key ≡ true → is_identifier key ≡ true
one_is [] key all is = absurd cc
one_is (k ∷ ks) key all is = go (one_is ks key (and_parts (is_identifier k) (list_all is_identifier ks) all).1) (bytes_eq k key) refl is
  where
    go : (one_of ks key ≡ true → is_identifier key ≡ true) → (b : Bool) → bytes_eq k key ≡ b → b || one_of ks key ≡ true → is_identifier key ≡ true
    go later true same found = subst (λ t. is_identifier t ≡ true) ((bytes_eq-Decides k key).0 same) (and_parts (is_identifier k) (list_all is_identifier ks) all).0
    go later false other found = later found

texts_all : (r : Role) → list_all is_identifier (text_keys r) ≡ true
texts_all role.Project = refl
texts_all role.Dependency = refl
texts_all role.Target = refl

switches_all : (r : Role) → list_all is_identifier (switch_keys r) ≡ true
switches_all role.Project = refl
switches_all role.Dependency = refl
switches_all role.Target = refl

lists_all : (r : Role) → list_all is_identifier (text_list_keys r) ≡ true
lists_all role.Project = refl
lists_all role.Dependency = refl
lists_all role.Target = refl

variables_all : (r : Role) → list_all is_identifier (identifier_list_keys r) ≡ true
variables_all role.Project = refl
variables_all role.Dependency = refl
variables_all role.Target = refl

module _ (r : Role) (key : List ℕ) (utf8 : IsUtf8 key) where
  pub text_key : one_of (text_keys r) key ≡ true → IsKey key
  text_key is = (identifier_true key (one_is (text_keys r) key (texts_all r) is), utf8)

  pub switch_key : one_of (switch_keys r) key ≡ true → IsKey key
  switch_key is = (identifier_true key (one_is (switch_keys r) key (switches_all r) is), utf8)

  pub text_list_key : one_of (text_list_keys r) key ≡ true → IsKey key
  text_list_key is = (identifier_true key (one_is (text_list_keys r) key (lists_all r) is), utf8)

  pub identifier_list_key : one_of (identifier_list_keys r) key ≡ true → IsKey key
  identifier_list_key is = (identifier_true key (one_is (identifier_list_keys r) key (variables_all r) is), utf8)
