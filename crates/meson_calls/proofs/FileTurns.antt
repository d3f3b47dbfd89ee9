-- The parts of files, one after another.
use Rattle.meson_calls.proofs.Words.{◌≡◌, ℕ, ◌+◌, ◌<◌, ◌≤◌, List, [], ◌∷◌, ◌++◌, length, drop, get_or, sym, ap, ◌∙◌, at_drop_more, at_drop_all, fold-append}
use Rattle.meson_calls.proofs.Words.{bytes_at, File, Span, view, Parsed, named_trees, views, Part, parts_from, parts_of_file, Placed, KeptParts, with_part}
use Rattle.meson_calls.proofs.Words.{with_parts}
use Rattle.meson_calls.proofs.Loads.{nth_bytes}

-- the parts of files with trees, of which the first has the number n
abbrev pub left : ℕ → List File → List Parsed → List (Placed (Part Span))
left n files trees = parts_from n (named_trees files (views files trees))

pub one_file : (files : List File) (trees : List Parsed) (i : ℕ) (d : File) (e : Parsed) → i < length files → i < length trees →
    left i (drop i files) (drop i trees) ≡ parts_of_file i (view (bytes_at i files) (get_or trees i e)) ++ left (i + 1) (drop (i + 1) files) (drop (i + 1) trees)
one_file files trees i d e within inside =
    at_drop_more (λ fs. left i fs (drop i trees)) files i d within
    ∙ at_drop_more (λ ts. left i (get_or files i d ∷ drop (i + 1) files) ts) trees i e inside
    ∙ ap (λ bytes. parts_of_file i (view bytes (get_or trees i e)) ++ left (i + 1) (drop (i + 1) files) (drop (i + 1) trees)) (sym (nth_bytes files i d within))

pub file_turn : (files : List File) (trees : List Parsed) (i : ℕ) (e : Parsed) (before after whole : KeptParts) → i < length files → i < length trees →
    after ≡ with_parts before (parts_of_file i (view (bytes_at i files) (get_or trees i e))) →
    with_parts before (left i (drop i files) (drop i trees)) ≡ whole → with_parts after (left (i + 1) (drop (i + 1) files) (drop (i + 1) trees)) ≡ whole
file_turn files trees i e before after whole within inside joins so_far =
    let here = parts_of_file i (view (bytes_at i files) (get_or trees i e)) in
    let more = left (i + 1) (drop (i + 1) files) (drop (i + 1) trees) in
    ap (λ a. with_parts a more) joins
    ∙ sym (fold-append with_part before here more)
    ∙ ap (with_parts before) (sym (one_file files trees i (record { name = []; bytes = [] }) e within inside))
    ∙ so_far

pub files_ended : (files : List File) (trees : List Parsed) (i : ℕ) (kept whole : KeptParts) → length files ≤ i → with_parts kept (left i (drop i files) (drop i trees)) ≡ whole → kept ≡ whole
files_ended files trees i kept whole past so_far = ap (with_parts kept) (sym (at_drop_all (λ fs. left i fs (drop i trees)) files i past)) ∙ so_far
