-- Notes of setters in files, one file after another.
use Rattle.meson_calls.proofs.Words.{Bor, false, ◌≡◌, ℕ, ◌+◌, ◌<◌, ◌≤◌, List, [], ◌∷◌, ◌++◌, length, drop, get_or, Bool, refl, sym, ap, ◌∙◌, subst}
use Rattle.meson_calls.proofs.Words.{append_assoc, append-nil, at_drop_more, at_drop_all, bytes_at, File, Span, Parsed, Note, Placed, AreSetters}
use Rattle.meson_calls.proofs.Words.{BeginWithSetters, NoCallSets, notes_asked}
use Rattle.meson_calls.proofs.Loads.{nth_bytes}

-- notes so far that notes of the files from i on complete
abbrev pub SettersGoOn : List (Bor (List ℕ)) → List File → List Parsed → ℕ → List (Placed (Note Span)) → Type 0
SettersGoOn names files trees i ns = (more : List (Placed (Note Span))) → AreSetters names i (drop i files) (drop i trees) more → AreSetters names 0 files trees (ns ++ more)

pub setters_go_on : (names : List (Bor (List ℕ))) (files : List File) (trees : List Parsed) → SettersGoOn names files trees 0 []
setters_go_on names files trees = λ more are. are

module _ (names : List (Bor (List ℕ))) (files : List File) (trees : List Parsed) (i : ℕ) (d : File) (e : Parsed) (before : List (Placed (Note Span))) (within : i < length files) (inside : i < length trees)
    (so_far : SettersGoOn names files trees i before) where
  abbrev f : File
  f = get_or files i d

  abbrev t : Parsed
  t = get_or trees i e

  -- notes of the files from i on
  from_here : (more : List (Placed (Note Span))) → BeginWithSetters names i f t (AreSetters names (i + 1) (drop (i + 1) files) (drop (i + 1) trees)) more → AreSetters names i (drop i files) (drop i trees) more
  from_here more head =
      subst (λ gs. AreSetters names i gs (drop i trees) more) (sym (at_drop_more (λ gs. gs) files i d within))
      (subst (λ us. AreSetters names i (f ∷ drop (i + 1) files) us more) (sym (at_drop_more (λ us. us) trees i e inside)) head)

  pub next_setters : (all : Bool) (after : List (Placed (Note Span))) → (all ≡ false → NoCallSets i (bytes_at i files) t)
      → after ≡ before ++ notes_asked names all i (bytes_at i files) t → SettersGoOn names files trees (i + 1) after
  next_setters all after few is = λ more further.
      let own = notes_asked names all i f.bytes t in
      subst (AreSetters names 0 files trees)
      (sym (ap (λ ns. ns ++ more) (is ∙ ap (λ b. before ++ notes_asked names all i b t) (nth_bytes files i d within)) ∙ append_assoc before own more))
      (so_far (own ++ more) (from_here (own ++ more) (record { all = all; few = λ no. subst (λ b. NoCallSets i b t) (nth_bytes files i d within) (few no); more = more; further = further; are = refl })))

pub all_setters : (names : List (Bor (List ℕ))) (files : List File) (trees : List Parsed) (i : ℕ) (ns : List (Placed (Note Span))) → length files ≤ i → SettersGoOn names files trees i ns → AreSetters names 0 files trees ns
all_setters names files trees i ns past so_far =
    subst (AreSetters names 0 files trees) (append-nil ns) (so_far [] (subst (λ fs. AreSetters names i fs (drop i trees) []) (sym (at_drop_all (λ fs. fs) files i past)) refl))
