-- What texts over a store hold: each of them by its name, and else what the store below holds.
use Rattle.std.proofs.Common.{◌≡◌, ◌∙◌, ℕ, suc, ◌+◌, Bool, true, false, not, cond, List, [], ◌∷◌, length, Option, Some, None, refl, sym, ap, option_map, arith}
use Rattle.std.specs.Prelude.{IfOk, IfSome, Result, Ok, Err, nat_lt, bytes_eq}
use Rattle.std.specs.FinMap.{get, insert}
use Rattle.std.specs.List.{position_or_len}
use Rattle.std.proofs.lemmas.Bool.{false≢true}
use Rattle.std.proofs.lemmas.Bool.Decides.{nat_tests}
use Rattle.std.proofs.lemmas.Slice.Eq.{bytes_eq-Decides}
use Rattle.meson_splice.specs.Files.{bytes_at, position_of_file}
use Rattle.meson_splice.specs.declared.file_set.File.{File}
use Rattle.meson_store.specs.Content.{Content}
use Rattle.meson_store.specs.Texts.{texts_over, with_texts}
use Rattle.meson_store.proofs.Restoring.{at-other, at-same}

-- the text at that place, or else what is held below
abbrev pub picked : List File → Option ℕ → Option (List ℕ) → Option (List ℕ)
picked texts None below = below
picked texts (Some i) below = Some (bytes_at i texts)

first : (m : ℕ) → nat_lt 0 (suc m) ≡ true
first m = grind (arith, nat_tests)

both : (n m : ℕ) → nat_lt (1 + n) (suc m) ≡ nat_lt n m
both n m = grind (arith, nat_tests)

one : (n : ℕ) → 1 + n ≡ suc n
one n = omega arith

later : (text : File) (texts : List File) (n : ℕ) (below : Option (List ℕ)) (b : Bool)
    → picked texts (cond b (Some n) None) below ≡ picked (text ∷ texts) (cond b (Some (1 + n)) None) below
later text texts n below true = ap (λ i. Some (bytes_at i (text ∷ texts))) (sym (one n))
later text texts n below false = refl

pub text-or-below : (texts : List File) (content : Content) (name : List ℕ)
    → get (with_texts texts content) name ≡ picked texts (position_of_file name texts) (get content name)
text-or-below [] content name = refl
text-or-below (text ∷ texts) content name = go (text-or-below texts content name) (bytes_eq text.name name) refl
  where
    n : ℕ
    n = position_or_len (λ f. bytes_eq f.name name) texts

    place : Bool → Option ℕ
    place b = let k = cond (not b) (1 + n) 0 in cond (nat_lt k (suc (length texts))) (Some k) None

    go : get (with_texts texts content) name ≡ picked texts (position_of_file name texts) (get content name) → (b : Bool) → bytes_eq text.name name ≡ b
        → get (insert (with_texts texts content) text.name text.bytes) name ≡ picked (text ∷ texts) (place b) (get content name)
    go below true is =
        ap (get (insert (with_texts texts content) text.name text.bytes)) (sym ((bytes_eq-Decides text.name name).0 is))
        ∙ at-same (with_texts texts content) text.name text.bytes
        ∙ ap (λ t. picked (text ∷ texts) (cond t (Some 0) None) (get content name)) (sym (first (length texts)))
    go below false is =
        at-other (with_texts texts content) text.name text.bytes name (λ e. false≢true (sym is ∙ (bytes_eq-Decides text.name name).1 (sym e)))
        ∙ below
        ∙ later text texts n (get content name) (nat_lt n (length texts))
        ∙ ap (λ t. picked (text ∷ texts) (cond t (Some (1 + n)) None) (get content name)) (sym (both n (length texts)))

module _ (texts : List File) (name : List ℕ) where
  pub given : (reported : Option Content) (i : ℕ) (bytes : List ℕ) → position_of_file name texts ≡ Some i → bytes ≡ bytes_at i texts
      → IfSome (texts_over texts reported) (λ files. Some bytes ≡ get files name)
  given None i bytes here are = tt
  given (Some content) i bytes here are = ap Some are ∙ ap (λ place. picked texts place (get content name)) (sym here) ∙ sym (text-or-below texts content name)

  pub not-given : {A : Type 0} (items : A → List ℕ) {E : Type 0} (reported : Option Content) → position_of_file name texts ≡ None → (result : Result (Option A) E)
      → IfOk result (λ read. IfSome reported (λ files. option_map items read ≡ get files name))
      → IfOk result (λ read. IfSome (texts_over texts reported) (λ files. option_map items read ≡ get files name))
  not-given items reported nowhere (Err why) read = tt
  not-given items None nowhere (Ok bytes) read = tt
  not-given items (Some content) nowhere (Ok bytes) read = read ∙ ap (λ place. picked texts place (get content name)) (sym nowhere) ∙ sym (text-or-below texts content name)
