-- Undos one after another.
use Rattle.std.proofs.Common.{◌≡◌, ℕ, zero, suc, ◌+◌, List, [], ◌∷◌, ◌++◌, Result, Ok, Err, refl, sym, ap, ◌∙◌, arith}
use Rattle.std.specs.Prelude.{reverse}
use Rattle.std.proofs.lemmas.List.{reverse-append, reverse-reverse}
use Rattle.meson_splice.specs.declared.change.Change.{Change}
use Rattle.meson_splice.specs.declared.fault.SpliceFault.{SpliceFault}
use Rattle.meson_splice.specs.declared.file_set.File.{File}
use Rattle.meson_splice.specs.declared.history.History.{History}
use Rattle.meson_splice.specs.Laws.{OneIsAnUndo, UndosFollow}
use Rattle.meson_splice.specs.Past.{undone, undone_from, undone_times}
use Rattle.meson_splice.specs.Patch.{inverses_of, patched_all, then_ok}

abbrev Stepped : Type 0
Stepped = Result (History × List File) SpliceFault

-- what follows what follows
then_then : (r : Stepped) (f g : History × List File → Stepped) → then_ok (then_ok r f) g ≡ then_ok r (λ s. then_ok (f s) g)
then_then (Ok s) f g = refl
then_then (Err e) f g = refl

then_nothing : (r : Stepped) → r ≡ then_ok r (λ s. let same : Stepped = Ok (s.0, s.1) in same)
then_nothing (Ok s) = refl
then_nothing (Err e) = refl

pub one-is-an-undo : OneIsAnUndo
one-is-an-undo h files = refl

pub undos-follow : UndosFollow
undos-follow first zero h files = ap (λ n. undone_times n h files) (let same : first + 0 ≡ first = omega arith in same) ∙ then_nothing (undone_times first h files)
undos-follow first (suc more) h files =
    ap (λ n. undone_times n h files) (let same : first + suc more ≡ suc (first + more) = omega arith in same)
    ∙ ap (λ r. then_ok r (λ s. undone s.0 s.1)) (undos-follow first more h files)
    ∙ then_then (undone_times first h files) (λ s. undone_times more s.0 s.1) (λ s. undone s.0 s.1)

-- one more after so many that were done
pub undone-more : (many : ℕ) (h k next : History) (files between after : List File) → undone_times many h files ≡ Ok (k, between) → undone k between ≡ Ok (next, after)
    → undone_times (suc many) h files ≡ Ok (next, after)
undone-more many h k next files between after done is = ap (λ r. then_ok r (λ s. undone s.0 s.1)) done ∙ is

-- ---- the changes that stand after an undo

abbrev past-of : Stepped → List Change
past-of (Ok s) = s.0.past
past-of (Err e) = []

not-done : (e : SpliceFault) (s : History × List File) → ◌≡◌ {A = Stepped} (Err e) (Ok s) → ⊥
not-done e s is = cc

past-from : (older future : List Change) (r : Result (List File) SpliceFault) (k : History) (after : List File)
    → then_ok r (λ before. let s : Stepped = Ok (record { past = reverse older; future = future }, before) in s) ≡ Ok (k, after) → k.past ≡ reverse older
past-from older future (Ok files) k after e = ap past-of (sym e)
past-from older future (Err fault) k after e = absurd (not-done fault (k, after) e)

-- all but the last one
pub undone-past : (front : List Change) (c : Change) (h k : History) (files after : List File) → h.past ≡ front ++ c ∷ [] → undone h files ≡ Ok (k, after) → k.past ≡ front
undone-past front c h k files after is done =
    let turned : reverse h.past ≡ c ∷ reverse front = ap reverse is ∙ reverse-append front (c ∷ []) in
    past-from (reverse front) (h.future ++ c ∷ []) (patched_all files (inverses_of c.splices)) k after (sym (ap (λ cs. undone_from cs h.future files) turned) ∙ done)
    ∙ reverse-reverse front
