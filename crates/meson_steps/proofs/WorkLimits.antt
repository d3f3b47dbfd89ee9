-- Files that are known within the limits, and those that pass one.
use Rattle.meson_steps.proofs.Words.{◌≡◌, ℕ, suc, ◌<◌, ◌≤◌, Bool, true, false, List, [], ◌∷◌, length, get_or, map, refl, sym, ap, ◌∙◌, subst, arith, All}
use Rattle.meson_steps.proofs.Words.{if◌then◌else◌, nat_le, nat_tests, bytes_at, File, Span, file_depth, IsSpanned, IsSpannedWithin, max_depth, max_len}
use Rattle.meson_steps.proofs.Words.{of_files, wide, Plain, erase, view, Parsed, other_limits, AreParsed, views, nth_bytes, is_saved, AreShallow, AreSmall}
use Rattle.meson_steps.proofs.Words.{AreKnown, HasDeep, HasLarge, Saved, AreShallowSoFar}
use Rattle.meson_syntax.specs.Tree as tree
use Rattle.meson_syntax.proofs.parsing.FileErased.{file-depth-erased}
use Rattle.meson_steps.proofs.OtherBytes.{as_many_plain, plain_at}

-- ---- from each file to all

abbrev pub HoldsOf : (List ℕ → tree.File Span → Type 0) → List File → List Parsed → Type 0
HoldsOf P files trees = (k : ℕ) (d : Parsed) → k < length files → P (bytes_at k files) (view (bytes_at k files) (get_or trees k d))

pub plain_all : (P : Plain → Type 0) (files : List File) (trees : List Parsed) → length trees ≡ length files → HoldsOf (λ bytes f. P (erase f)) files trees → All P (map erase (views files trees))
plain_all P files [] many each = λ k p within. let none = as_many_plain files [] many in absurd (omega (arith, none, within))
plain_all P files (t ∷ trees) many each = λ k p within.
    let alike = as_many_plain files (t ∷ trees) many in
    let there : k < length (t ∷ trees) = omega (arith, alike, within) in
    let inside : k < length files = omega (arith, many, there) in
    subst P (sym (plain_at files (t ∷ trees) k t p many there)) (each k t inside)

parsed_all : (files : List File) (trees : List Parsed) → length trees ≡ length files → HoldsOf IsSpanned files trees → AreParsed files trees
parsed_all [] [] many each = tt
parsed_all [] (t ∷ trees) many each = absurd (omega (arith, many))
parsed_all (f ∷ files) [] many each = absurd (omega (arith, many))
parsed_all (f ∷ files) (t ∷ trees) many each =
    let first : 0 < length (f ∷ files) = omega arith in
    let alike : length trees ≡ length files = omega (arith, many) in
    (each 0 t first, parsed_all files trees alike (λ k d within. let next : suc k < length (f ∷ files) = omega (arith, within) in each (suc k) d next))

pub all_small : (files : List File) → ((k : ℕ) → k < length files → length (bytes_at k files) ≤ max_len) → AreSmall files
all_small files small = λ k d within. subst (λ bytes. length bytes ≤ max_len) (nth_bytes files k d within) (small k within)

-- ---- known files

shallow_by : (saved : Bool) (bytes : List ℕ) (f : tree.File Span) → IsSpannedWithin (if saved then wide else of_files) bytes f → (saved ≡ true → file_depth f ≤ max_depth) → file_depth (erase f) ≤ max_depth
shallow_by true bytes f s shallow = subst (λ n. n ≤ max_depth) (sym (file-depth-erased f)) (shallow refl)
shallow_by false bytes f s shallow = s.reads.depth

module _ (saved : List Saved) (files : List File) (trees : List Parsed) (known : AreKnown saved files trees) (shallow : AreShallowSoFar saved trees) where
  each_shallow : HoldsOf (λ bytes f. file_depth (erase f) ≤ max_depth) files trees
  each_shallow = λ k d within.
      let many = known.as_many in
      let there : k < length trees = omega (arith, many, within) in
      let bytes = bytes_at k files in
      shallow_by (is_saved k saved) bytes (view bytes (get_or trees k d)) (known.each k d within) (λ is. shallow k there is d bytes)

  pub known_shallow : AreShallow (map erase (views files trees))
  known_shallow = plain_all (λ t. file_depth t ≤ max_depth) files trees known.as_many each_shallow

  pub known_parsed : ((k : ℕ) → k < length files → length (bytes_at k files) ≤ max_len) → AreParsed files trees
  known_parsed small = parsed_all files trees known.as_many (λ k d within.
      let bytes = bytes_at k files in
      let s = known.each k d within in
      other_limits _ of_files bytes (view bytes (get_or trees k d)) s (record { fits = small k within; utf8 = s.reads.source.utf8; no_mark = s.reads.source.no_mark }) (each_shallow k d within))

-- ---- a limit is passed

pub not_shallow : (files : List File) (trees : List Parsed) → length trees ≡ length files → HasDeep trees → AreShallow (map erase (views files trees)) → ⊥
not_shallow files trees many h all =
    let bytes = bytes_at h.place files in
    let p = erase (view bytes h.tree) in
    let within : h.place < length (map erase (views files trees)) = omega (arith, as_many_plain files trees many, h.there) in
    let is = plain_at files trees h.place h.tree p many h.there ∙ ap (λ t. erase (view bytes t)) h.is in
    let flat = subst (λ n. n ≤ max_depth) (ap file_depth is ∙ file-depth-erased (view bytes h.tree)) (all h.place p within) in
    let far = h.deep bytes in
    absurd (omega (arith, flat, far))

pub not_small : (files : List File) → HasLarge files → AreSmall files → ⊥
not_small files h all =
    let nobody : File = record { name = []; bytes = [] } in
    let small = subst (λ bytes. length bytes ≤ max_len) (sym (nth_bytes files h.place nobody h.there)) (all h.place nobody h.there) in
    let large = h.large in
    absurd (omega (arith, small, large))

-- ---- the test of one tree

pub fits : (m n : ℕ) → nat_le m n ≡ true → m ≤ n
fits m n is = grind (arith, nat_tests)

pub passes : (m n : ℕ) → nat_le m n ≡ false → n < m
passes m n is = grind (arith, nat_tests)
