-- Where the strings of a tree are of their kinds, so are those of all its parts.
use Rattle.meson_calls.proofs.Words.{◌≡◌, ℕ, List, [], ◌∷◌, ◌++◌, Some, subst, Word, Any, a_block, file_words, nth, file, child_nodes, Every, Part}
use Rattle.meson_calls.proofs.Words.{parts_of_file, Placed, place, AreGood, PartsGood, part_words, CallRef}
use Rattle.meson_syntax.specs.Tree.{File}
use Rattle.meson_calls.specs.Parts as part
use Rattle.meson_calls.proofs.nodes.ChildWords.{child_words, words_of}
use Rattle.meson_calls.proofs.nodes.EachPart.{each_part}
use Rattle.meson_calls.proofs.nodes.PartsBelow.{any, parts_of}

pub good_left : (xs ys : List Word) → AreGood (xs ++ ys) → AreGood xs
good_left [] ys good = tt
good_left (x ∷ xs) ys good = (good.0, good_left xs ys good.1)

pub good_right : (xs ys : List Word) → AreGood (xs ++ ys) → AreGood ys
good_right [] ys good = good
good_right (x ∷ xs) ys good = good_right xs ys good.1

module _ {S : Type 0} where
  abbrev IsGoodPart : Placed (Part S) → Type 0
  IsGoodPart q = AreGood (part_words q.it)

  together : (qs : List (Placed (Part S))) → Every IsGoodPart qs → PartsGood qs
  together [] all = tt
  together (q ∷ qs) all = (all.0, together qs all.1)

  down : (p : CallRef) (x : Any S) → AreGood (words_of x) → (n : ℕ) (y : Any S) → nth (child_nodes x) n ≡ Some y → AreGood (words_of y)
  down p x good n y is =
      let among = child_words S x n y is in
      good_left (words_of y) among.behind (good_right among.before (words_of y ++ among.behind) (subst AreGood among.are good))

  own : (p : CallRef) (x : Part S) → AreGood (words_of (any x)) → AreGood (part_words x)
  own p (part.an_expression e) good = good
  own p (part.a_statement s) good = good

  pub parts_good : (p : CallRef) (x : Any S) → AreGood (words_of x) → PartsGood (parts_of p x)
  parts_good p x good = together (parts_of p x) (each_part (λ c y. AreGood (words_of y)) IsGoodPart down own p x good)

  pub file_good : (n : ℕ) (f : File S) → AreGood (file_words f) → PartsGood (parts_of_file n f)
  file_good n (file s b) good = parts_good (place n []) (a_block b) good
