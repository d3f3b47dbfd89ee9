-- The n-th element of a list: where it stands in the list with spans and in the list without, and the words of the list after an edit there.
use Rattle.meson_edit.proofs.Words.{◌≡◌, ℕ, zero, suc, Bool, true, List, [], ◌∷◌, ◌++◌, take, drop, map, Some, refl, sym, ap, ap₂, subst, ◌∙◌, append_assoc}
use Rattle.meson_edit.proofs.Words.{Span, IsWithout, comma_word, IsBehindElement, IsBeforeElement, comma_words, argument_words, arguments_words, nth, ElementAt}
use Rattle.meson_edit.proofs.Words.{elements_at, element_at, inner_words, Nowhere, Listing, listing, Argument, Arguments, no_arguments, argument, arguments_of}
use Rattle.meson_edit.proofs.Words.{argument_list, erase_argument, erase_arguments, erase_listing, comma-erased, argument-words-erased, arguments-words-erased}
use Rattle.meson_edit.proofs.Words.{some-injective, elements, with_elements}
use Rattle.meson_edit.proofs.lists.Words.{words_of, words_behind, list-back, comma-always, words-join, words-taken, before-element, behind-element, flag}
use Rattle.meson_edit.proofs.lists.Words.{flag-kept, words-without}

nth-map : {A B : Type 0} (f : A → B) (xs : List A) (n : ℕ) (x : A) → nth xs n ≡ Some x → nth (map f xs) n ≡ Some (f x)
nth-map f [] n x h = absurd cc
nth-map f (y ∷ xs) zero x h = ap (λ z. Some (f z)) (some-injective y x h)
nth-map f (y ∷ xs) (suc n) x h = nth-map f xs n x h

-- ---- among arguments

-- the element, and the words before and behind it by those of the elements there
record Cut (list : Arguments Span) (trailing : Bool) (n : ℕ) (it : Argument Nowhere) : Type 0 where
  at : ElementAt Span
  is_at : nth (elements_at list trailing) n ≡ Some at
  there : nth (argument_list list) n ≡ Some at.element
  same : erase_argument at.element ≡ it
  before_is : at.before ≡ words_of (take n (argument_list (erase_arguments list))) true
  behind_is : at.behind ≡ words_behind (drop (suc n) (argument_list (erase_arguments list))) trailing

-- the same in a list that has one element more before it
abbrev behind_first : Argument Span → Arguments Span → Bool → ElementAt Span → ElementAt Span
behind_first a more trailing p = record { element = p.element; before = argument_words a ++ (comma_words more trailing ++ p.before); behind = p.behind }

comma-there : (more : Arguments Span) (trailing : Bool) (n : ℕ) (p : ElementAt Span) → nth (elements_at more trailing) n ≡ Some p → comma_words more trailing ≡ comma_word ∷ []
comma-there no_arguments trailing n p h = absurd cc
comma-there (argument a more) trailing n p h = refl

-- there is one where the list without spans has an n-th element
cut : (list : Arguments Span) (trailing : Bool) (n : ℕ) (it : Argument Nowhere) → nth (argument_list (erase_arguments list)) n ≡ Some it → Cut list trailing n it
cut no_arguments trailing n it h = absurd cc
cut (argument a more) trailing zero it h = record {
  at = record { element = a; before = []; behind = comma_words more trailing ++ arguments_words more trailing };
  is_at = refl;
  there = refl;
  same = some-injective _ _ h;
  before_is = refl;
  behind_is = ap₂ (λ u v. u ++ v) (sym (comma-erased more trailing)) (sym (arguments-words-erased more trailing))
      ∙ ap (λ (xs : Arguments Nowhere). comma_words xs trailing ++ arguments_words xs trailing) (sym (list-back (erase_arguments more)));
}
cut (argument a more) trailing (suc n) it h =
    let c = cut more trailing n it h in
    let before = take n (argument_list (erase_arguments more)) in
    record {
      at = behind_first a more trailing c.at;
      is_at = nth-map (behind_first a more trailing) (elements_at more trailing) n c.at c.is_at;
      there = c.there;
      same = c.same;
      before_is = ap₂ (λ u v. u ++ v) (sym (argument-words-erased a)) (ap₂ (λ u v. u ++ v) (comma-there more trailing n c.at c.is_at ∙ sym (comma-always (arguments_of before))) c.before_is);
      behind_is = c.behind_is;
    }

-- ---- in a list

-- the n-th element of a list, which is `it` without its spans
pub record CutAt (l : Listing Span) (n : ℕ) (it : Argument Nowhere) : Type 0 where
  pub at : ElementAt Span
  pub is_at : element_at l n ≡ Some at
  pub there : nth (elements l) n ≡ Some at.element
  pub same : erase_argument at.element ≡ it
  pub words : argument_words it ≡ argument_words at.element
  pub ends : IsBeforeElement at.before
  pub begins : IsBehindElement at.behind
  -- the words with another element in its place, with another one behind it, and without it
  pub exchanged : (b : Argument Nowhere) → inner_words (with_elements (erase_listing l) (take n (elements (erase_listing l)) ++ b ∷ drop (suc n) (elements (erase_listing l)))) ≡ at.before ++ (argument_words b ++ at.behind)
  pub inserted : (b : Argument Nowhere) → inner_words (with_elements (erase_listing l) (take (suc n) (elements (erase_listing l)) ++ b ∷ drop (suc n) (elements (erase_listing l))))
      ≡ at.before ++ (argument_words at.element ++ comma_word ∷ (argument_words b ++ at.behind))
  pub removed : IsWithout at.before at.behind (inner_words (with_elements (erase_listing l) (take n (elements (erase_listing l)) ++ drop (suc n) (elements (erase_listing l)))))

-- the words of elements with one between them, and with one behind the n-th
put-words : (trailing : Bool) (xs ys : List (Argument Nowhere)) (b : Argument Nowhere) → words_of (xs ++ b ∷ ys) (flag trailing (xs ++ b ∷ ys)) ≡ words_of xs true ++ (argument_words b ++ words_behind ys trailing)
put-words trailing xs ys b = ap (words_of (xs ++ b ∷ ys)) (flag-kept xs b ys trailing) ∙ words-join xs b ys trailing

group-comma : {A : Type 0} (a b : List A) (c : A) (d : List A) → (a ++ (b ++ c ∷ [])) ++ d ≡ a ++ (b ++ c ∷ d)
group-comma a b c d = simp append_assoc

behind-words : (trailing : Bool) (xs : List (Argument Nowhere)) (n : ℕ) (it : Argument Nowhere) → nth xs n ≡ Some it → (b : Argument Nowhere)
    → words_of (take (suc n) xs ++ b ∷ drop (suc n) xs) (flag trailing (take (suc n) xs ++ b ∷ drop (suc n) xs))
    ≡ words_of (take n xs) true ++ (argument_words it ++ comma_word ∷ (argument_words b ++ words_behind (drop (suc n) xs) trailing))
behind-words trailing xs n it h b =
    put-words trailing (take (suc n) xs) (drop (suc n) xs) b
    ∙ ap (λ w. w ++ (argument_words b ++ words_behind (drop (suc n) xs) trailing)) (words-taken xs n it h)
    ∙ group-comma (words_of (take n xs) true) (argument_words it) comma_word (argument_words b ++ words_behind (drop (suc n) xs) trailing)

pub cut-at : (l : Listing Span) (n : ℕ) (it : Argument Nowhere) → nth (elements (erase_listing l)) n ≡ Some it → CutAt l n it
cut-at (listing s trailing list) n it h =
    let c = cut list trailing n it h in
    let xs = argument_list (erase_arguments list) in
    let before = take n xs in
    let behind = drop (suc n) xs in
    let words : argument_words it ≡ argument_words c.at.element = ap argument_words (sym c.same) ∙ argument-words-erased c.at.element in
    record {
      at = c.at;
      is_at = c.is_at;
      there = c.there;
      same = c.same;
      words = words;
      ends = subst IsBeforeElement (sym c.before_is) (before-element before);
      begins = subst IsBehindElement (sym c.behind_is) (behind-element behind trailing);
      exchanged = λ b. put-words trailing before behind b ∙ ap₂ (λ u v. u ++ (argument_words b ++ v)) (sym c.before_is) (sym c.behind_is);
      inserted = λ b. behind-words trailing xs n it h b
          ∙ ap₂ (λ u v. u ++ (argument_words it ++ comma_word ∷ (argument_words b ++ v))) (sym c.before_is) (sym c.behind_is)
          ∙ ap (λ w. c.at.before ++ (w ++ comma_word ∷ (argument_words b ++ c.at.behind))) words;
      removed = subst (λ w. IsWithout w c.at.behind (words_of (before ++ behind) (flag trailing (before ++ behind)))) (sym c.before_is)
          (subst (λ w. IsWithout (words_of before true) w (words_of (before ++ behind) (flag trailing (before ++ behind)))) (sym c.behind_is) (words-without before behind trailing));
    }
