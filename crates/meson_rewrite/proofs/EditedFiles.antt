-- The files that splices edit are those that they name, each once.
use Rattle.std.proofs.Common.{◌≡◌, ◌∙◌, ◌||◌, ◌<◌, ◌+◌, ◌-◌, ℕ, Bool, true, false, not, cond, List, [], ◌∷◌, length, drop, get_or, bytes_eq, refl, sym, ap, arith}
use Rattle.std.specs.Prelude.{if◌then◌else◌}
use Rattle.std.specs.List.{AllByRecursion, IsDistinct, list_any}
use Rattle.std.proofs.lemmas.Bool.Decides.{not_from_Decides}
use Rattle.std.proofs.lemmas.List.{drop_more}
use Rattle.std.proofs.lemmas.Map.Made.{AllPairs-from_IsDistinct}
use Rattle.std.proofs.lemmas.Slice.Eq.{bytes_eq-Decides}
use Rattle.meson_splice.specs.declared.splice.Splice.{Splice}
use Rattle.meson_rewrite.specs.Changes.{AreEdited, edited_files, is_edited}

abbrev is_in : List ℕ → List (List ℕ) → Bool
is_in file files = list_any (λ f. bytes_eq f file) files

-- the file of a splice that a later one edits too
also-later : (of_this : Bool) (file mine : List ℕ) (splices : List Splice) → bytes_eq mine file ≡ of_this → is_edited mine splices ≡ true → is_edited file splices ≡ (of_this || is_edited file splices)
also-later true file mine splices e h = ap (λ f. is_edited f splices) (sym ((bytes_eq-Decides mine file).0 e)) ∙ h
also-later false file mine splices e h = refl

in-one : (later : Bool) (s : Splice) (splices : List Splice) → is_edited s.file splices ≡ later → (file : List ℕ) → is_in file (edited_files splices) ≡ is_edited file splices
    → is_in file (if later then edited_files splices else s.file ∷ edited_files splices) ≡ (bytes_eq s.file file || is_edited file splices)
in-one true s splices h file all = all ∙ also-later (bytes_eq s.file file) file s.file splices refl h
in-one false s splices h file all = ap (λ b. bytes_eq s.file file || b) all

edited-all : (splices : List Splice) (file : List ℕ) → is_in file (edited_files splices) ≡ is_edited file splices
edited-all [] file = refl
edited-all (s ∷ splices) file = in-one (is_edited s.file splices) s splices refl file (edited-all splices file)

-- ---- none twice

first : (a b : Bool) → (a || b) ≡ false → a ≡ false
first true b e = e
first false b e = refl

rest : (a b : Bool) → (a || b) ≡ false → b ≡ false
rest true b e = absurd (let no : ⊥ = cc in no)
rest false b e = e

differ : (b : Bool) → (b ≡ true → ⊥) → b ≡ false
differ true n = absurd (n refl)
differ false n = refl

flip : (x y : List ℕ) → bytes_eq y x ≡ false → bytes_eq x y ≡ false
flip x y e = differ (bytes_eq x y) (λ t. not_from_Decides _ (bytes_eq-Decides y x) e (sym ((bytes_eq-Decides x y).0 t)))

apart : (x : List ℕ) (xs : List (List ℕ)) → is_in x xs ≡ false → AllByRecursion (λ y. bytes_eq x y ≡ false) xs
apart x [] e = tt
apart x (y ∷ xs) e = (flip x y (first _ _ e), apart x xs (rest (bytes_eq y x) _ e))

distinct-one : (later : Bool) (s : Splice) (splices : List Splice) → is_edited s.file splices ≡ later → IsDistinct bytes_eq (edited_files splices)
    → IsDistinct bytes_eq (if later then edited_files splices else s.file ∷ edited_files splices)
unfolding IsDistinct
distinct-one true s splices h all = all
distinct-one false s splices h all = (apart s.file (edited_files splices) (edited-all splices s.file ∙ h), all)

distinct : (splices : List Splice) → IsDistinct bytes_eq (edited_files splices)
unfolding IsDistinct
distinct [] = tt
distinct (s ∷ splices) = distinct-one (is_edited s.file splices) s splices refl (distinct splices)

pub are-edited : (splices : List Splice) → AreEdited splices (edited_files splices)
are-edited splices = record { edited = edited-all splices; each_once = AllPairs-from_IsDistinct bytes_eq-Decides (edited_files splices) (distinct splices) }

-- ---- one splice more, before those that were passed

pub passed-more : (splices : List Splice) (passed : ℕ) (s : Splice) → passed < length splices → get_or splices (length splices - 1 - passed) s ≡ s
    → drop (length splices - (passed + 1)) splices ≡ s ∷ drop (length splices - passed) splices
passed-more splices passed s within is =
    let at = length splices - 1 - passed in
    let next : at + 1 ≡ length splices - passed = omega arith in
    ap (λ n. drop n splices) (omega arith) ∙ drop_more splices at s (omega arith) ∙ ap (λ f. f ∷ drop (at + 1) splices) is ∙ ap (λ n. s ∷ drop n splices) next

longer : (later : Bool) (file : List ℕ) (files : List (List ℕ)) → length (if later then files else file ∷ files) ≡ length files + (if not later then 1 else 0)
longer true file files = omega arith
longer false file files = omega arith

pub counted-more : (s : Splice) (gone : List Splice) → length (edited_files (s ∷ gone)) ≡ length (edited_files gone) + (if not (is_edited s.file gone) then 1 else 0)
counted-more s gone = longer (is_edited s.file gone) s.file (edited_files gone)

pub edited-more : (here had : Bool) → cond here true had ≡ (here || had)
edited-more true had = refl
edited-more false had = refl
