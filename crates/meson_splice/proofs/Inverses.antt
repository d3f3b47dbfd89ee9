-- Splices and their inverses.
use Rattle.std.proofs.Common.{◌≡◌, ℕ, ◌+◌, ◌≤◌, Bool, true, false, cond, List, [], ◌∷◌, ◌++◌, map, reverse, length, take, drop, Result, Ok, Err, refl, sym, ap, ◌∙◌, arith, length-append, length-take, append_assoc}
use Rattle.std.proofs.lemmas.List.{take-append-drop, reverse-append, reverse-reverse, map-append}
use Rattle.std.specs.Prelude.{bytes_eq, nat_le}
use Rattle.std.proofs.lemmas.Bool.Decides.{nat_tests}
use Rattle.std.proofs.lemmas.Slice.Eq.{bytes_eq-Decides}
use Rattle.std.proofs.Math.Seq.{take-append_seam, drop-append_seam, drop-drop}
use Rattle.meson_splice.specs.declared.file_set.File.{File}
use Rattle.meson_splice.specs.declared.splice.Splice.{Splice}
use Rattle.meson_splice.specs.declared.fault.SpliceFault.{SpliceFault}
use Rattle.meson_splice.specs.Patch.{Patches, inverse_of, inverses_of, patched, patched_all, patched_in, then_ok}
use Rattle.meson_splice.specs.Laws.{PatchedMeansPatches, InverseRestores, InverseRestoresFiles, InversesRestore}

-- the parts of a list that a range cuts out
cut : (b : List ℕ) (at n : ℕ) → (take at b ++ take n (drop at b)) ++ drop (at + n) b ≡ b
cut b at n = rw (append_assoc, ← drop-drop, take-append-drop n (drop at b), take-append-drop at b) refl

fits_true : (n m : ℕ) → n ≤ m → nat_le n m ≡ true
fits_true n m h = grind (arith, nat_tests)

fits_from : (n m : ℕ) → nat_le n m ≡ true → n ≤ m
fits_from n m h = grind (arith, nat_tests)

take_mid : (p w q : List ℕ) → take (length w) (drop (length p) ((p ++ w) ++ q)) ≡ w
take_mid p w q = rw (append_assoc, drop-append_seam, take-append_seam) refl

take_front : (p w q : List ℕ) → take (length p) ((p ++ w) ++ q) ≡ p
take_front p w q = rw (append_assoc, take-append_seam) refl

drop_end : (p w q : List ℕ) → drop (length p + length w) ((p ++ w) ++ q) ≡ q
drop_end p w q = rw (← length-append p w, drop-append_seam (p ++ w) q) refl

both_pass : {X E : Type 0} (r t : Bool) (x c : X) (d e : E) → cond r (cond t (Ok x) (Err d)) (Err e) ≡ Ok c → (r ≡ true) × (t ≡ true) × (x ≡ c)
both_pass true true x c d e h = (refl, refl, cc)
both_pass true false x c d e h = absurd (let no : ⊥ = cc in no)
both_pass false t x c d e h = absurd (let no : ⊥ = cc in no)

patches-from : (b : List ℕ) (s : Splice) (c : List ℕ) → patched b s ≡ Ok c → Patches b s c
patches-from b s c h =
    let pass = both_pass (nat_le (s.at + length s.was) (length b)) (bytes_eq (take (length s.was) (drop s.at b)) s.was) (take s.at b ++ s.now ++ drop (s.at + length s.was) b) c _ _ h in
    let fits : s.at + length s.was ≤ length b = fits_from _ _ pass.0 in
    let same : take (length s.was) (drop s.at b) ≡ s.was = (bytes_eq-Decides (take (length s.was) (drop s.at b)) s.was).0 pass.1 in
    record {
      p = take s.at b;
      q = drop (s.at + length s.was) b;
      before = sym (ap (λ w. (take s.at b ++ w) ++ drop (s.at + length s.was) b) (sym same) ∙ cut b s.at (length s.was));
      place = rw length-take (omega arith);
      after = sym pass.2;
    }

patched-from : (b : List ℕ) (s : Splice) (c : List ℕ) → Patches b s c → patched b s ≡ Ok c
patched-from b s c h =
    let fits : nat_le (length h.p + length s.was) (length ((h.p ++ s.was) ++ h.q)) ≡ true = fits_true _ _ (rw (length-append, length-append) (omega arith)) in
    let same : bytes_eq (take (length s.was) (drop (length h.p) ((h.p ++ s.was) ++ h.q))) s.was ≡ true = (bytes_eq-Decides _ _).1 (take_mid h.p s.was h.q) in
    rw (h.before, ← h.place, fits, same, take_front h.p s.was h.q, drop_end h.p s.was h.q) (ap (λ x. Ok x) (sym h.after))

pub patched-means-patches : PatchedMeansPatches
patched-means-patches b s c = (patches-from b s c, patched-from b s c)

pub inverse-restores : InverseRestores
inverse-restores b c s h =
    let m = patches-from b s c h in
    patched-from c (inverse_of s) b (record { p = m.p; q = m.q; before = m.after; place = m.place; after = m.before })

ok-from : {A B E : Type 0} (r : Result A E) (f : A → B) (y : B) → then_ok r (λ x. Ok (f x)) ≡ Ok y → (x : A) × (r ≡ Ok x) × (f x ≡ y)
ok-from (Ok x) f y h = (x, refl, cc)
ok-from (Err e) f y h = absurd (let no : ⊥ = cc in no)

ok-then : {A B E : Type 0} (r : Result A E) (f : A → Result B E) (y : B) → then_ok r f ≡ Ok y → (x : A) × (r ≡ Ok x) × (f x ≡ Ok y)
ok-then (Ok x) f y h = (x, refl, h)
ok-then (Err e) f y h = absurd (let no : ⊥ = cc in no)

here-or-later : (t : Bool) (f : File) (fs gs : List File) (s : Splice) → t ≡ bytes_eq f.name s.file → ((hs : List File) → patched_in fs s ≡ Ok hs → patched_in hs (inverse_of s) ≡ Ok fs) → cond t (then_ok (patched f.bytes s) (λ b. Ok (record f { bytes = b } ∷ fs))) (then_ok (patched_in fs s) (λ hs. Ok (f ∷ hs))) ≡ Ok gs → patched_in gs (inverse_of s) ≡ Ok (f ∷ fs)
here-or-later true f fs gs s is later h =
    let o = ok-from (patched f.bytes s) (λ b. record f { bytes = b } ∷ fs) gs h in
    rw (← o.2, ← is, inverse-restores f.bytes o.0 s o.1) refl
here-or-later false f fs gs s is later h =
    let o = ok-from (patched_in fs s) (λ hs. f ∷ hs) gs h in
    rw (← o.2, ← is, later o.0 o.1) refl

pub inverse-restores-files : InverseRestoresFiles
inverse-restores-files [] gs s h = absurd (let no : ⊥ = cc in no)
inverse-restores-files (f ∷ fs) gs s h = here-or-later (bytes_eq f.name s.file) f fs gs s refl (λ hs. inverse-restores-files fs hs s) h

pub patched_all-append : (fs : List File) (ss ts : List Splice) → patched_all fs (ss ++ ts) ≡ then_ok (patched_all fs ss) (λ gs. patched_all gs ts)
patched_all-append fs [] ts = refl
patched_all-append fs (s ∷ ss) ts = one (patched_in fs s) (λ gs. patched_all-append gs ss ts) where
  one : (r : Result (List File) SpliceFault) → ((gs : List File) → patched_all gs (ss ++ ts) ≡ then_ok (patched_all gs ss) (λ hs. patched_all hs ts)) → then_ok r (λ gs. patched_all gs (ss ++ ts)) ≡ then_ok (then_ok r (λ gs. patched_all gs ss)) (λ hs. patched_all hs ts)
  one (Ok gs) rest = rest gs
  one (Err e) rest = refl

inverses_of-cons : (s : Splice) (ss : List Splice) → inverses_of (s ∷ ss) ≡ inverses_of ss ++ inverse_of s ∷ []
inverses_of-cons s ss = reverse-append (inverse_of s ∷ []) (map inverse_of ss)

pub inverses-restore : InversesRestore
inverses-restore fs gs [] h = sym h
inverses-restore fs gs (s ∷ ss) h =
    let o = ok-then (patched_in fs s) (λ hs. patched_all hs ss) gs h in
    let back = inverses-restore o.0 gs ss o.2 in
    rw (inverses_of-cons s ss, patched_all-append gs (inverses_of ss) (inverse_of s ∷ []), back, inverse-restores-files fs o.0 s o.1) refl

map-reverse : (ss : List Splice) → map inverse_of (reverse ss) ≡ reverse (map inverse_of ss)
map-reverse [] = refl
map-reverse (s ∷ ss) =
    ap (map inverse_of) (reverse-append (s ∷ []) ss) ∙ map-append inverse_of (reverse ss) (s ∷ []) ∙ ap (λ ts. ts ++ inverse_of s ∷ []) (map-reverse ss)
    ∙ sym (reverse-append (inverse_of s ∷ []) (map inverse_of ss))

inverse_of-map : (ss : List Splice) → map inverse_of (map inverse_of ss) ≡ ss
inverse_of-map [] = refl
inverse_of-map (s ∷ ss) = ap (λ t. s ∷ t) (inverse_of-map ss)

pub inverses_of-inverses_of : (ss : List Splice) → inverses_of (inverses_of ss) ≡ ss
inverses_of-inverses_of ss = ap reverse (map-reverse (map inverse_of ss)) ∙ reverse-reverse (map inverse_of (map inverse_of ss)) ∙ inverse_of-map ss
