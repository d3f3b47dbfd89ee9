-- A file in which some statements became others is no deeper than before by more than these are, nor than the file with these alone.
use Rattle.meson_edit.proofs.Words.{max, ◌≡◌, ℕ, zero, suc, ◌+◌, ◌<◌, ◌≤◌, ◌⊎◌, inl, inr, refl, List, [], ◌∷◌, ◌++◌, take, drop, Some, ap, arith, statements_depth, block_depth}
use Rattle.meson_edit.proofs.Words.{file_depth, of_block, Hole, Nowhere, Statement, statement_list, statements_of, Block}
use Rattle.meson_edit.proofs.Words.{block, file, Plain, BlockAt, block_at}
use Rattle.meson_syntax.proofs.parsing.CompleteFiles.{list-of-statements}
use Rattle.std.proofs.lemmas.Bool.{cases_lt}
use Rattle.meson_edit.specs.ExchangedLines.{exchanged_in, with_statements, RoomsSuffice}
use Rattle.meson_edit.proofs.exchange.AmongStatements.{of-block-at, block-fits}
use Rattle.meson_edit.proofs.paths.DeepLists.{reach-grows}
use Rattle.meson_edit.proofs.paths.Positions.{with_node}
use Rattle.meson_edit.proofs.paths.PutThere.{reach-stays}

-- ---- lists of statements

abbrev depth_of : List (Statement Nowhere) → ℕ
depth_of list = statements_depth (statements_of list)

depth-append : (xs ys : List (Statement Nowhere)) → depth_of (xs ++ ys) ≡ max (depth_of xs) (depth_of ys)
depth-append [] ys = omega arith
depth-append (x ∷ xs) ys = omega (arith, depth-append xs ys)

depth-take : (n : ℕ) (xs : List (Statement Nowhere)) → depth_of (take n xs) ≤ depth_of xs
depth-take zero xs = omega arith
depth-take (suc n) [] = omega arith
depth-take (suc n) (x ∷ xs) = omega (arith, depth-take n xs)

depth-drop : (n : ℕ) (xs : List (Statement Nowhere)) → depth_of (drop n xs) ≤ depth_of xs
depth-drop zero xs = omega arith
depth-drop (suc n) [] = omega arith
depth-drop (suc n) (x ∷ xs) = omega (arith, depth-drop n xs)

exchanged-depth : (from many : ℕ) (new : List (Statement Nowhere)) (b : Block Nowhere) → block_depth (exchanged_in from many new b) ≤ max (block_depth b) (depth_of new)
exchanged-depth from many new (block s list) =
    let xs = statement_list list in
    let back = drop (from + many) xs in
    omega (arith, depth-append (take from xs) (new ++ back), depth-append new back, depth-take from xs, depth-drop (from + many) xs, ap statements_depth (list-of-statements list))

-- ---- the file

abbrev BlockGrows : Plain → BlockAt Nowhere → Type 0
BlockGrows t b = (other : Block Nowhere) (k : ℕ) → block_depth other ≤ block_depth b.inside + k → file_depth (b.back other) ≤ file_depth t + k

pub lines-deepen : (t : Plain) (path : List ℕ) (b : BlockAt Nowhere) → block_at t path ≡ Some b → (from many : ℕ) (new : List (Statement Nowhere))
    → file_depth (b.back (exchanged_in from many new b.inside)) ≤ file_depth t + statements_depth (statements_of new)
lines-deepen (file s c) path b is from many new =
    let grows : BlockGrows (file s c) b =
    of-block-at Nowhere (file s c) path (BlockGrows (file s c)) (λ x before behind back at. reach-grows Nowhere of_block c path _ at) b is in
    grows (exchanged_in from many new b.inside) (depth_of new) (omega (arith, exchanged-depth from many new b.inside))

-- ---- the file with the new statements alone

alone-depth : (b : Block Nowhere) (new : List (Statement Nowhere)) → block_depth (with_statements b new) ≡ depth_of new
alone-depth (block s list) new = refl

-- of two blocks the deeper one makes the file the deeper one
abbrev Ordered : BlockAt Nowhere → Type 0
Ordered b = (x y : Block Nowhere) → block_depth y ≤ block_depth x → file_depth (b.back y) ≤ file_depth (b.back x)

ordered : (t : Plain) (path : List ℕ) (b : BlockAt Nowhere) → block_at t path ≡ Some b → Ordered b
ordered (file s c) path b is =
    of-block-at Nowhere (file s c) path Ordered
    (λ inside before behind back at x y less.
    let h : Hole Nowhere (Block Nowhere) = record { sort = of_block; inside = inside; before = before; behind = behind; back = back } in
    omega (arith, reach-grows Nowhere of_block (back x) path (with_node h x) (reach-stays Nowhere of_block c path h at x) y 0 (omega (arith, less))))
    b is

pub rooms-suffice : RoomsSuffice
rooms-suffice t path b is most old from many new alone = by-depth (cases_lt (block_depth b.inside) (depth_of new)) where
  deepest : block_depth (exchanged_in from many new b.inside) ≤ max (block_depth b.inside) (depth_of new)
  deepest = exchanged-depth from many new b.inside

  by-depth : (block_depth b.inside < depth_of new) ⊎ (depth_of new ≤ block_depth b.inside) → file_depth (b.back (exchanged_in from many new b.inside)) ≤ most
  by-depth (inl deep) =
      let less : block_depth (exchanged_in from many new b.inside) ≤ block_depth (with_statements b.inside new) = omega (arith, deepest, deep, alone-depth b.inside new) in
      omega (arith, ordered t path b is (with_statements b.inside new) (exchanged_in from many new b.inside) less, alone)
  by-depth (inr shallow) =
      let less : block_depth (exchanged_in from many new b.inside) ≤ block_depth b.inside = omega (arith, deepest, shallow) in
      omega (arith, ordered t path b is b.inside (exchanged_in from many new b.inside) less, ap file_depth (block-fits Nowhere t path b is).itself, old)
