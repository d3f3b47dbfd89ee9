-- Notes of files, one after another.
use Rattle.meson_calls.proofs.Words.{false, if◌then◌else◌, ◌≡◌, ℕ, ◌+◌, ◌<◌, ◌≤◌, List, [], ◌∷◌, ◌++◌, length, drop, get_or, Bool, true, refl, sym, ap, ◌∙◌}
use Rattle.meson_calls.proofs.Words.{subst, append_assoc, append-nil, at_drop_more, at_drop_all, bytes_at, File, Span, view, Parsed, Note, noted, parts_of_file}
use Rattle.meson_calls.proofs.Words.{Placed, AreNotesOf, AreNotesWith, HasNoneOf, passed, whole}
use Rattle.meson_calls.proofs.Loads.{nth_bytes}

-- notes so far that notes of the files from i on complete
abbrev pub GoesOn : List (List ℕ) → List File → List Parsed → ℕ → List (Placed (Note Span)) → Type 0
GoesOn words files trees i ns = (more : List (Placed (Note Span))) → AreNotesWith words i (drop i files) (drop i trees) more → AreNotesWith words 0 files trees (ns ++ more)

pub goes_on : (words : List (List ℕ)) (files : List File) (trees : List Parsed) → GoesOn words files trees 0 []
goes_on words files trees = λ more are. are

module _ (words : List (List ℕ)) (files : List File) (trees : List Parsed) (i : ℕ) (d : File) (e : Parsed) (before : List (Placed (Note Span))) (within : i < length files) (inside : i < length trees)
    (so_far : GoesOn words files trees i before) where
  abbrev f : File
  f = get_or files i d

  abbrev t : Parsed
  t = get_or trees i e

  -- notes of the files from i on
  from_here : (more : List (Placed (Note Span))) → AreNotesOf words i f t (AreNotesWith words (i + 1) (drop (i + 1) files) (drop (i + 1) trees)) more → AreNotesWith words i (drop i files) (drop i trees) more
  from_here more head =
      subst (λ gs. AreNotesWith words i gs (drop i trees) more) (sym (at_drop_more (λ gs. gs) files i d within))
      (subst (λ us. AreNotesWith words i (f ∷ drop (i + 1) files) us more) (sym (at_drop_more (λ us. us) trees i e inside)) head)

  one_of : (asked : Bool) (after more : List (Placed (Note Span))) → (asked ≡ false → HasNoneOf words (bytes_at i files))
      → after ≡ (if asked then before ++ noted (parts_of_file i (view (bytes_at i files) t)) else before)
      → AreNotesWith words (i + 1) (drop (i + 1) files) (drop (i + 1) trees) more → AreNotesWith words 0 files trees (after ++ more)
  one_of true after more none is further =
      let own = noted (parts_of_file i (view f.bytes t)) in
      subst (AreNotesWith words 0 files trees)
      (sym (ap (λ ns. ns ++ more) (is ∙ ap (λ b. before ++ noted (parts_of_file i (view b t))) (nth_bytes files i d within)) ∙ append_assoc before own more))
      (so_far (own ++ more) (from_here (own ++ more) (whole more further refl)))
  one_of false after more none is further =
      subst (λ ns. AreNotesWith words 0 files trees (ns ++ more)) (sym is) (so_far more (from_here more (passed (subst (HasNoneOf words) (nth_bytes files i d within) (none refl)) further)))

  pub next_file : (asked : Bool) (after : List (Placed (Note Span))) → (asked ≡ false → HasNoneOf words (bytes_at i files))
      → after ≡ (if asked then before ++ noted (parts_of_file i (view (bytes_at i files) t)) else before) → GoesOn words files trees (i + 1) after
  next_file asked after none is = λ more further. one_of asked after more none is further

pub all_files : (words : List (List ℕ)) (files : List File) (trees : List Parsed) (i : ℕ) (ns : List (Placed (Note Span))) → length files ≤ i → GoesOn words files trees i ns → AreNotesWith words 0 files trees ns
all_files words files trees i ns past so_far =
    subst (AreNotesWith words 0 files trees) (append-nil ns) (so_far [] (subst (λ fs. AreNotesWith words i fs (drop i trees) []) (sym (at_drop_all (λ fs. fs) files i past)) refl))
