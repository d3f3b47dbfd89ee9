-- What was replaced gets its old bytes again, the last file first.
use Rattle.std.proofs.Common.{◌≡◌, ℕ, zero, suc, ◌+◌, ◌-◌, ◌<◌, ◌≤◌, List, [], ◌∷◌, ◌++◌, map, length, take, drop, reverse, refl, sym, ap, ◌∙◌, subst, arith, add-one}
use Rattle.std.proofs.lemmas.List.{length-map, map-append, reverse-append, take-map}
use Rattle.std.proofs.Math.Seq.{get_or-append_seam, take-append-add, take-append_seam}
use Rattle.std.specs.Prelude.{slice_index_or, string_bytes}
use Rattle.meson_store.specs.Commit.{GoBack, Put, Stops, all_back, is_back, is_lost, to_go_back}
use Rattle.meson_store.specs.inside.Commit.{names_of, tries}
use Rattle.meson_store.specs.inside.Planned.{put_of}
use Rattle.meson_store.specs.Seen.{IsNotReplaced, IsReplaced, Seen}
use Rattle.meson_store.specs.declared.committing.Planned.{Planned}
use Rattle.meson_store.specs.declared.store.StoreError.{StoreError}
use Rattle.meson_store.specs.declared.store.StoreError.TheVariants as error

-- ---- old bytes put back, one file after another

back-then : (xs ys : List Put) (s t u : Seen) (ns ms : List (List ℕ)) → GoBack xs s t ns → GoBack ys t u ms → GoBack (xs ++ ys) s u (ns ++ ms)
back-then _ ys s _ u _ ms (all_back _) more = more
back-then _ ys s t u ns ms (is_back file files _ m _ _ r rest) more = is_back file (files ++ ys) s m u (ns ++ ms) r (back-then files ys m t u ns ms rest more)
back-then _ ys s t u _ ms (is_lost file files _ m _ names why r rest) more = is_lost file (files ++ ys) s m u (names ++ ms) why r (back-then files ys m t u names ms rest more)

pub one-back : (file : Planned) (path : List ℕ) (s t : Seen) → path ≡ string_bytes file.path → IsReplaced path file.was.now s t → GoBack (put_of file ∷ []) s t []
one-back file path s t same r = is_back (put_of file) [] s t t [] (subst (λ p. IsReplaced p file.was.now s t) same r) (all_back t)

pub one-lost : (file : Planned) (path : List ℕ) (s t : Seen) (why : StoreError) (name : List ℕ) → path ≡ string_bytes file.path → name ≡ file.name.now → IsNotReplaced why path file.was.now s t
    → GoBack (put_of file ∷ []) s t (name ∷ [])
one-lost file path s t why name same is r =
    subst (λ n. GoBack (put_of file ∷ []) s t (n ∷ [])) (sym is)
    (is_lost (put_of file) [] s t t [] why (subst (λ p. IsNotReplaced why p file.was.now s t) same r) (all_back t))

from-here : (files : List Planned) (k : ℕ) (file : Planned) → file ≡ slice_index_or files k file → k < length files → drop k files ≡ file ∷ drop (suc k) files
from-here [] k file is h = absurd (omega arith)
from-here (f ∷ fs) zero file is h = ap (λ x. x ∷ fs) (sym is)
from-here (f ∷ fs) (suc k) file is h = from-here fs k file is (omega arith)

-- the files from one on, those behind it first
pub back-more : (files : List Planned) (k many : ℕ) (file : Planned) → file ≡ slice_index_or files k file → k < length files → k + 1 ≡ many → (s t u : Seen) (still more : List (List ℕ))
    → GoBack (reverse (map put_of (drop many files))) s t still → GoBack (put_of file ∷ []) t u more → GoBack (reverse (map put_of (drop k files))) s u (still ++ more)
back-more files k many file is h next s t u still more before one =
    let behind = reverse (map put_of (drop (suc k) files)) in
    let from : drop many files ≡ drop (suc k) files = ap (λ n. drop n files) (sym next ∙ add-one k) in
    let all : reverse (map put_of (drop k files)) ≡ behind ++ put_of file ∷ [] =
    ap (λ fs. reverse (map put_of fs)) (from-here files k file is h) ∙ reverse-append (put_of file ∷ []) (map put_of (drop (suc k) files)) in
    subst (λ fs. GoBack fs s u (still ++ more)) (sym all)
    (back-then behind (put_of file ∷ []) s t u still more (subst (λ fs. GoBack (reverse (map put_of fs)) s t still) from before) one)

-- the name of the last of so many files, and the names before it
pub last-name : (files : List Planned) (k many : ℕ) (file : Planned) → file ≡ slice_index_or files k file → k < length files → k + 1 ≡ many → (names : List (List ℕ))
    → names ≡ names_of (map put_of (take many files)) → (d : List ℕ) → slice_index_or names (many - 1) d ≡ file.name.now
last-name files k many file is h next names are d =
    let count : many ≡ suc k = sym next ∙ add-one k in
    let last : many - 1 ≡ k = omega (arith, next) in
    ap (λ n. slice_index_or names n d) last ∙ ap (λ ns. slice_index_or ns k d) (are ∙ ap (λ n. names_of (map put_of (take n files))) count) ∙ go files k file is h
  where
    go : (fs : List Planned) (n : ℕ) (f : Planned) → f ≡ slice_index_or fs n f → n < length fs → slice_index_or (names_of (map put_of (take (suc n) fs))) n d ≡ f.name.now
    go [] n f e l = absurd (omega arith)
    go (x ∷ fs) zero f e l = ap (λ y. y.name.now) (sym e)
    go (x ∷ fs) (suc n) f e l = go fs n f e (omega arith)

pub names-before : (files : List Planned) (k many : ℕ) → k < length files → k + 1 ≡ many → (names rest : List (List ℕ)) → names ≡ names_of (map put_of (take many files))
    → rest ≡ take (many - 1) names → rest ≡ names_of (map put_of (take k files))
names-before files k many h next names rest are is =
    let count : many ≡ suc k = sym next ∙ add-one k in
    let last : many - 1 ≡ k = omega (arith, next) in
    is ∙ ap (λ n. take n names) last ∙ ap (take k) (are ∙ ap (λ n. names_of (map put_of (take n files))) count) ∙ go files k h
  where
    go : (fs : List Planned) (n : ℕ) → n < length fs → take n (names_of (map put_of (take (suc n) fs))) ≡ names_of (map put_of (take n fs))
    go [] n l = absurd (omega arith)
    go (x ∷ fs) zero l = refl
    go (x ∷ fs) (suc n) l = ap (λ ns. x.name.now ∷ ns) (go fs n (omega arith))

-- the files up to one of them
tried-of : (files : List Planned) (n : ℕ) (done rest : List Put) (failed : Put) → map put_of files ≡ done ++ (failed ∷ rest) → length done ≡ n →
    (map put_of (take n files) ≡ done) × (map put_of (take (n + 1) files) ≡ done ++ (failed ∷ []))
tried-of files n done rest failed split many = (
  sym (take-map put_of n files) ∙ ap (take n) split ∙ ap (λ k. take k (done ++ (failed ∷ rest))) (sym many) ∙ take-append_seam done (failed ∷ rest),
  sym (take-map put_of (n + 1) files) ∙ ap (take (n + 1)) split ∙ ap (λ k. take (k + 1) (done ++ (failed ∷ rest))) (sym many) ∙ take-append-add done (failed ∷ rest) 1,
)

pub gone-back : (files : List Planned) (n : ℕ) (done rest : List Put) (failed : Put) → map put_of files ≡ done ++ (failed ∷ rest) → length done ≡ n → (why : StoreError) →
    reverse (map put_of (take (n + tries why) files)) ≡ to_go_back why failed done
gone-back files n done rest failed split many error.Device = ap reverse (tried-of files n done rest failed split many).1 ∙ reverse-append done (failed ∷ [])
gone-back files n done rest failed split many error.Unchanged = ap (λ k. reverse (map put_of (take k files))) (let e : n + 0 ≡ n = omega arith in e) ∙ ap reverse (tried-of files n done rest failed split many).0
gone-back files n done rest failed split many error.OutOfMemory = ap (λ k. reverse (map put_of (take k files))) (let e : n + 0 ≡ n = omega arith in e) ∙ ap reverse (tried-of files n done rest failed split many).0

-- the name of the one that could not be replaced
pub failed-name : (files : List Planned) (n : ℕ) (done rest : List Put) (failed : Put) → map put_of files ≡ done ++ (failed ∷ rest) → length done ≡ n →
    (names : List (List ℕ)) → names ≡ names_of (map put_of files) → (d : List ℕ) → slice_index_or names n d ≡ failed.name
failed-name files n done rest failed split many names are d =
    ap (λ ns. slice_index_or ns n d) (are ∙ ap names_of split ∙ map-append (λ p. p.name) done (failed ∷ rest))
    ∙ ap (λ k. slice_index_or (names_of done ++ (failed.name ∷ names_of rest)) k d) (sym many ∙ sym (length-map done (λ p. p.name)))
    ∙ get_or-append_seam (names_of done) failed.name (names_of rest) d

-- failures are counted up
back-counts : (files : List Put) (s u : Seen) (names : List (List ℕ)) → GoBack files s u names → s.failures ≤ u.failures
back-counts _ s _ _ (all_back _) = omega arith
back-counts _ s u names (is_back file files _ t _ _ r more) = let a = r.counts in let b = back-counts files t u _ more in omega (arith, a, b)
back-counts _ s u _ (is_lost file files _ t _ names why r more) = let a = r.counts in let b = back-counts files t u names more in omega (arith, a, b)

pub stopped-counts : (files tried : List Put) (before stopped after : Seen) (why : StoreError) (names : List (List ℕ)) → Stops files before stopped why → GoBack tried stopped after names →
    before.failures ≤ after.failures
stopped-counts files tried before stopped after why names s back =
    let a = s.are.counts in let b = s.fails.counts in let c = back-counts tried stopped after names back in omega (arith, a, b, c)
