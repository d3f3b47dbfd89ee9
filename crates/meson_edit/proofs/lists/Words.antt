-- The words of elements of a list, cut before and behind one of them.
use Rattle.meson_edit.proofs.Words.{◌≡◌, ℕ, zero, suc, Bool, true, false, List, [], ◌∷◌, ◌++◌, take, if◌then◌else◌, Some, refl, sym, ap, ap₂, subst, ◌∙◌}
use Rattle.meson_edit.proofs.Words.{append_assoc, inl, inr, append-nil, Word, IsWithout, comma_word, IsBehindElement, IsBeforeElement, comma_words}
use Rattle.meson_edit.proofs.Words.{argument_words, arguments_words, nth, Argument, Arguments, no_arguments, argument, arguments_of, argument_list}
use Rattle.meson_edit.proofs.Words.{some-injective, is_empty}

group : {A : Type 0} (a b c d : List A) → a ++ (b ++ (c ++ d)) ≡ (a ++ (b ++ c)) ++ d
group a b c d = simp append_assoc

module _ {S : Type 0} where
  abbrev pub words_of : List (Argument S) → Bool → List Word
  words_of list trailing = arguments_words (arguments_of list) trailing

  -- the words behind an element: a comma where elements follow or a trailing one is written, and theirs
  abbrev pub words_behind : List (Argument S) → Bool → List Word
  words_behind list trailing = comma_words (arguments_of list) trailing ++ words_of list trailing

  pub list-back : (list : Arguments S) → arguments_of (argument_list list) ≡ list
  list-back no_arguments = refl
  list-back (argument a more) = ap (argument a) (list-back more)

  pub comma-always : (list : Arguments S) → comma_words list true ≡ comma_word ∷ []
  comma-always no_arguments = refl
  comma-always (argument a more) = refl

  comma-between : (xs : List (Argument S)) (y : Argument S) (ys : List (Argument S)) (trailing : Bool) → comma_words (arguments_of (xs ++ y ∷ ys)) trailing ≡ comma_word ∷ []
  comma-between [] y ys trailing = refl
  comma-between (x ∷ xs) y ys trailing = refl

  -- elements before others: each of them has its comma
  pub words-join : (xs : List (Argument S)) (y : Argument S) (ys : List (Argument S)) (trailing : Bool) → words_of (xs ++ y ∷ ys) trailing ≡ words_of xs true ++ words_of (y ∷ ys) trailing
  words-join [] y ys trailing = refl
  words-join (x ∷ xs) y ys trailing =
      ap₂ (λ u v. argument_words x ++ (u ++ v)) (comma-between xs y ys trailing ∙ sym (comma-always (arguments_of xs))) (words-join xs y ys trailing)
      ∙ group (argument_words x) (comma_words (arguments_of xs) true) (words_of xs true) (words_of (y ∷ ys) trailing)

  -- the last comma by itself
  last-comma : (x : Argument S) (xs : List (Argument S)) → words_of (x ∷ xs) true ≡ words_of (x ∷ xs) false ++ comma_word ∷ []
  last-comma x [] = ap (λ w. w ++ comma_word ∷ []) (sym (append-nil (argument_words x)))
  last-comma x (y ∷ ys) = ap (λ w. argument_words x ++ (comma_word ∷ w)) (last-comma y ys) ∙ group (argument_words x) (comma_word ∷ []) (words_of (y ∷ ys) false) (comma_word ∷ [])

  -- one element more
  pub words-taken : (xs : List (Argument S)) (n : ℕ) (x : Argument S) → nth xs n ≡ Some x → words_of (take (suc n) xs) true ≡ words_of (take n xs) true ++ (argument_words x ++ comma_word ∷ [])
  words-taken [] n x h = absurd cc
  words-taken (y ∷ xs) zero x h = ap (λ a. argument_words a ++ comma_word ∷ []) (some-injective y x h)
  words-taken (y ∷ xs) (suc n) x h =
      ap₂ (λ u v. argument_words y ++ (u ++ v)) (comma-always (arguments_of (take (suc n) xs)) ∙ sym (comma-always (arguments_of (take n xs)))) (words-taken xs n x h)
      ∙ group (argument_words y) (comma_words (arguments_of (take n xs)) true) (words_of (take n xs) true) (argument_words x ++ comma_word ∷ [])

  -- ---- what stands before and behind an element

  pub before-element : (xs : List (Argument S)) → IsBeforeElement (words_of xs true)
  before-element [] = inl refl
  before-element (x ∷ xs) = inr (words_of (x ∷ xs) false, last-comma x xs)

  pub behind-element : (ys : List (Argument S)) (trailing : Bool) → IsBehindElement (words_behind ys trailing)
  behind-element [] true = inr ([], refl)
  behind-element [] false = inl refl
  behind-element (y ∷ ys) trailing = inr (words_of (y ∷ ys) trailing, refl)

  -- ---- flags

  -- the comma behind the last element, which an empty list has not
  abbrev pub flag : Bool → List (Argument S) → Bool
  flag trailing list = if is_empty list then false else trailing

  pub flag-kept : (xs : List (Argument S)) (y : Argument S) (ys : List (Argument S)) (trailing : Bool) → flag trailing (xs ++ y ∷ ys) ≡ trailing
  flag-kept [] y ys trailing = refl
  flag-kept (x ∷ xs) y ys trailing = refl

  -- ---- an element gone

  none-left : (xs : List (Argument S)) (trailing : Bool) → IsWithout (words_of xs true) (words_behind [] trailing) (words_of xs (flag trailing xs))
  none-left [] true = inl ([], refl, refl)
  none-left [] false = inr (inr (refl, refl, refl))
  none-left (x ∷ xs) true = inl ([], refl, sym (append-nil (words_of (x ∷ xs) true)))
  none-left (x ∷ xs) false = inr (inl (words_of (x ∷ xs) false, refl, last-comma x xs, refl))

  pub words-without : (xs ys : List (Argument S)) (trailing : Bool) → IsWithout (words_of xs true) (words_behind ys trailing) (words_of (xs ++ ys) (flag trailing (xs ++ ys)))
  words-without xs [] trailing = subst (λ ws. IsWithout (words_of xs true) (words_behind [] trailing) (words_of ws (flag trailing ws))) (sym (append-nil xs)) (none-left xs trailing)
  words-without xs (y ∷ ys) trailing = inl (words_of (y ∷ ys) trailing, refl, ap (λ t. words_of (xs ++ y ∷ ys) t) (flag-kept xs y ys trailing) ∙ words-join xs y ys trailing)
