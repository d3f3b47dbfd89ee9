-- Files of which one has other bytes, and their trees of which one is another one.
use Rattle.meson_steps.proofs.Words.{◌≡◌, ◌≢◌, ℕ, zero, suc, ◌<◌, List, [], ◌∷◌, map, length, get_or, refl, ap, arith, All, slice_set, All-cons, All-head}
use Rattle.meson_steps.proofs.Words.{All-tail, bytes_at, with_bytes, File, Plain, erase, view, Parsed, HasFileName, views}

-- ---- files

pub bytes_there : (files : List File) (i : ℕ) (text : List ℕ) → i < length files → bytes_at i (with_bytes i text files) ≡ text
bytes_there [] i text within = absurd (omega (arith, within))
bytes_there (f ∷ files) zero text within = refl
bytes_there (f ∷ files) (suc i) text within = let below : i < length files = omega (arith, within) in bytes_there files i text below

pub bytes_elsewhere : (files : List File) (i k : ℕ) (text : List ℕ) → k ≢ i → bytes_at k (with_bytes i text files) ≡ bytes_at k files
bytes_elsewhere [] i k text other = refl
bytes_elsewhere (f ∷ files) zero zero text other = absurd (other refl)
bytes_elsewhere (f ∷ files) zero (suc k) text other = refl
bytes_elsewhere (f ∷ files) (suc i) zero text other = refl
bytes_elsewhere (f ∷ files) (suc i) (suc k) text other = bytes_elsewhere files i k text (λ same. other (ap suc same))

pub as_many_files : (files : List File) (i : ℕ) (text : List ℕ) → length (with_bytes i text files) ≡ length files
as_many_files [] i text = refl
as_many_files (f ∷ files) zero text = refl
as_many_files (f ∷ files) (suc i) text = ap suc (as_many_files files i text)

pub named_with : (files : List File) (i : ℕ) (text : List ℕ) → All HasFileName files → All HasFileName (with_bytes i text files)
named_with [] i text all = all
named_with (f ∷ files) zero text all = All-cons HasFileName (record f { bytes = text }) files (All-head HasFileName f files all) (All-tail HasFileName f files all)
named_with (f ∷ files) (suc i) text all = All-cons HasFileName f (with_bytes i text files) (All-head HasFileName f files all) (named_with files i text (All-tail HasFileName f files all))

-- ---- files with their trees

pub plain_at : (files : List File) (trees : List Parsed) (i : ℕ) (d : Parsed) (p : Plain) → length trees ≡ length files → i < length trees
    → get_or (map erase (views files trees)) i p ≡ erase (view (bytes_at i files) (get_or trees i d))
plain_at files [] i d p many within = absurd (omega (arith, within))
plain_at [] (t ∷ trees) i d p many within = absurd (omega (arith, many))
plain_at (f ∷ files) (t ∷ trees) zero d p many within = refl
plain_at (f ∷ files) (t ∷ trees) (suc i) d p many within =
    let alike : length trees ≡ length files = omega (arith, many) in
    let below : i < length trees = omega (arith, within) in
    plain_at files trees i d p alike below

pub as_many_plain : (files : List File) (trees : List Parsed) → length trees ≡ length files → length (map erase (views files trees)) ≡ length trees
as_many_plain [] [] many = refl
as_many_plain [] (t ∷ trees) many = absurd (omega (arith, many))
as_many_plain (f ∷ files) [] many = refl
as_many_plain (f ∷ files) (t ∷ trees) many = let alike : length trees ≡ length files = omega (arith, many) in ap suc (as_many_plain files trees alike)

pub plain_with : (files : List File) (trees : List Parsed) (i : ℕ) (text : List ℕ) (tree : Parsed) → length trees ≡ length files
    → map erase (views (with_bytes i text files) (slice_set trees i tree)) ≡ slice_set (map erase (views files trees)) i (erase (view text tree))
plain_with [] [] i text tree many = refl
plain_with [] (t ∷ trees) i text tree many = absurd (omega (arith, many))
plain_with (f ∷ files) [] i text tree many = absurd (omega (arith, many))
plain_with (f ∷ files) (t ∷ trees) zero text tree many = refl
plain_with (f ∷ files) (t ∷ trees) (suc i) text tree many =
    let alike : length trees ≡ length files = omega (arith, many) in ap (λ ts. erase (view f.bytes t) ∷ ts) (plain_with files trees i text tree alike)
