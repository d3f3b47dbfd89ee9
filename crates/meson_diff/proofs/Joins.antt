-- The lines of each text in entries that are joined.
use Rattle.std.proofs.Common.{◌≡◌, ℕ, ◌+◌, ◌-◌, ◌<◌, List, [], ◌∷◌, ◌++◌, filter, get_or, length, map, take, drop, refl, ap, ap₂, sym, ◌∙◌, arith}
use Rattle.std.specs.Prelude.{slice_range}
use Rattle.std.proofs.lemmas.List.{append_assoc, append-nil, drop_more, map-append, take-append-drop}
use Rattle.std.proofs.lemmas.List.Elements.{filter-append}
use Rattle.meson_diff.specs.Alignment.{IsMeeting, is_new, is_old, marked, new_lines, old_lines}
use Rattle.meson_diff.specs.declared.entry.Entry.{Entry}
use Rattle.meson_diff.specs.declared.entry.Mark.TheVariants.{Kept, Gone, Come}

pub old_lines-append : (xs ys : List Entry) → old_lines (xs ++ ys) ≡ old_lines xs ++ old_lines ys
old_lines-append xs ys =
    ap (map (λ (e : Entry). e.line)) (filter-append (λ e. is_old e.mark) xs ys)
    ∙ map-append (λ (e : Entry). e.line) (filter (λ e. is_old e.mark) xs) (filter (λ e. is_old e.mark) ys)

pub new_lines-append : (xs ys : List Entry) → new_lines (xs ++ ys) ≡ new_lines xs ++ new_lines ys
new_lines-append xs ys =
    ap (map (λ (e : Entry). e.line)) (filter-append (λ e. is_new e.mark) xs ys)
    ∙ map-append (λ (e : Entry). e.line) (filter (λ e. is_new e.mark) xs) (filter (λ e. is_new e.mark) ys)

-- ---- lines of one mark

pub old_kept : (these : List (List ℕ)) → old_lines (marked Kept these) ≡ these
old_kept [] = refl
old_kept (line ∷ these) = ap (λ more. line ∷ more) (old_kept these)

pub new_kept : (these : List (List ℕ)) → new_lines (marked Kept these) ≡ these
new_kept [] = refl
new_kept (line ∷ these) = ap (λ more. line ∷ more) (new_kept these)

pub old_gone : (these : List (List ℕ)) → old_lines (marked Gone these) ≡ these
old_gone [] = refl
old_gone (line ∷ these) = ap (λ more. line ∷ more) (old_gone these)

pub new_gone : (these : List (List ℕ)) → new_lines (marked Gone these) ≡ []
new_gone [] = refl
new_gone (line ∷ these) = new_gone these

pub old_come : (these : List (List ℕ)) → old_lines (marked Come these) ≡ []
old_come [] = refl
old_come (line ∷ these) = old_come these

pub new_come : (these : List (List ℕ)) → new_lines (marked Come these) ≡ these
new_come [] = refl
new_come (line ∷ these) = ap (λ more. line ∷ more) (new_come these)

-- ---- some lines go, some come, one is kept, and the rest is left

pub slice_one : (xs : List (List ℕ)) (i : ℕ) → i < length xs → slice_range xs i (i + 1) ≡ get_or xs i [] ∷ []
slice_one xs i h =
    let one : i + 1 - i ≡ 1 = omega arith in
    ap (λ n. take n (drop i xs)) one ∙ ap (take 1) (drop_more xs i [] h)

pub kept_one : (xs : List (List ℕ)) (i : ℕ) → i < length xs → take i xs ++ get_or xs i [] ∷ drop (i + 1) xs ≡ xs
kept_one xs i h = ap (λ rest. take i xs ++ rest) (sym (drop_more xs i [] h)) ∙ take-append-drop i xs

-- lists in a row, the second or the third of which is empty
row_old : (p a b c rest whole : List (List ℕ)) (x : List ℕ) → b ≡ [] → c ≡ x ∷ [] → a ++ x ∷ rest ≡ whole → (((p ++ a) ++ b) ++ c) ++ rest ≡ p ++ whole
row_old p a b c rest whole x no_b one_c are =
    ap (λ l. (((p ++ a) ++ l) ++ c) ++ rest) no_b
    ∙ ap (λ l. (((p ++ a) ++ []) ++ l) ++ rest) one_c
    ∙ ap (λ l. (l ++ x ∷ []) ++ rest) (append-nil (p ++ a))
    ∙ append_assoc (p ++ a) (x ∷ []) rest
    ∙ append_assoc p a (x ∷ rest)
    ∙ ap (λ l. p ++ l) are

row_new : (p a b c rest whole : List (List ℕ)) (x : List ℕ) → a ≡ [] → c ≡ x ∷ [] → b ++ x ∷ rest ≡ whole → (((p ++ a) ++ b) ++ c) ++ rest ≡ p ++ whole
row_new p a b c rest whole x no_a one_c are =
    ap (λ l. (((p ++ l) ++ b) ++ c) ++ rest) no_a
    ∙ ap (λ l. ((l ++ b) ++ c) ++ rest) (append-nil p)
    ∙ ap (λ l. ((p ++ b) ++ l) ++ rest) one_c
    ∙ append_assoc (p ++ b) (x ∷ []) rest
    ∙ append_assoc p b (x ∷ rest)
    ∙ ap (λ l. p ++ l) are

old_lines-four : (es gs bs cs : List Entry) → old_lines (((es ++ gs) ++ bs) ++ cs) ≡ ((old_lines es ++ old_lines gs) ++ old_lines bs) ++ old_lines cs
old_lines-four es gs bs cs =
    old_lines-append ((es ++ gs) ++ bs) cs
    ∙ ap (λ l. l ++ old_lines cs) (old_lines-append (es ++ gs) bs ∙ ap (λ l. l ++ old_lines bs) (old_lines-append es gs))

new_lines-four : (es gs bs cs : List Entry) → new_lines (((es ++ gs) ++ bs) ++ cs) ≡ ((new_lines es ++ new_lines gs) ++ new_lines bs) ++ new_lines cs
new_lines-four es gs bs cs =
    new_lines-append ((es ++ gs) ++ bs) cs
    ∙ ap (λ l. l ++ new_lines cs) (new_lines-append (es ++ gs) bs ∙ ap (λ l. l ++ new_lines bs) (new_lines-append es gs))

pub old_more : (es : List Entry) (old new : List (List ℕ)) (gone come : ℕ) → IsMeeting old new gone come
    → old_lines (((es ++ marked Gone (take gone old)) ++ marked Come (take come new)) ++ marked Kept (slice_range old gone (gone + 1))) ++ drop (gone + 1) old
    ≡ old_lines es ++ old
old_more es old new gone come meets =
    let gs = marked Gone (take gone old) in
    let bs = marked Come (take come new) in
    let cs = marked Kept (slice_range old gone (gone + 1)) in
    let rest = drop (gone + 1) old in
    ap (λ l. l ++ rest) (old_lines-four es gs bs cs)
    ∙ row_old (old_lines es) (old_lines gs) (old_lines bs) (old_lines cs) rest old (get_or old gone [])
    (old_come (take come new))
    (old_kept (slice_range old gone (gone + 1)) ∙ slice_one old gone meets.in_old)
    (ap (λ l. l ++ get_or old gone [] ∷ rest) (old_gone (take gone old)) ∙ kept_one old gone meets.in_old)

pub new_more : (es : List Entry) (old new : List (List ℕ)) (gone come : ℕ) → IsMeeting old new gone come
    → new_lines (((es ++ marked Gone (take gone old)) ++ marked Come (take come new)) ++ marked Kept (slice_range old gone (gone + 1))) ++ drop (come + 1) new
    ≡ new_lines es ++ new
new_more es old new gone come meets =
    let gs = marked Gone (take gone old) in
    let bs = marked Come (take come new) in
    let cs = marked Kept (slice_range old gone (gone + 1)) in
    let rest = drop (come + 1) new in
    ap (λ l. l ++ rest) (new_lines-four es gs bs cs)
    ∙ row_new (new_lines es) (new_lines gs) (new_lines bs) (new_lines cs) rest new (get_or new come [])
    (new_gone (take gone old))
    (new_kept (slice_range old gone (gone + 1)) ∙ slice_one old gone meets.in_old ∙ ap (λ l. l ∷ []) (meets.one_line []))
    (ap (λ l. l ++ get_or new come [] ∷ rest) (new_come (take come new)) ∙ kept_one new come meets.in_new)

-- the rest goes, and then comes
pub old_rest : (es some all : List Entry) (old new whole : List (List ℕ)) → some ≡ es ++ marked Gone old → all ≡ some ++ marked Come new
    → old_lines es ++ old ≡ whole → old_lines all ≡ whole
old_rest es some all old new whole goes comes are =
    ap old_lines (comes ∙ ap (λ l. l ++ marked Come new) goes)
    ∙ old_lines-append (es ++ marked Gone old) (marked Come new)
    ∙ ap₂ (λ a b. a ++ b) (old_lines-append es (marked Gone old) ∙ ap (λ l. old_lines es ++ l) (old_gone old)) (old_come new)
    ∙ append-nil (old_lines es ++ old)
    ∙ are

pub new_rest : (es some all : List Entry) (old new whole : List (List ℕ)) → some ≡ es ++ marked Gone old → all ≡ some ++ marked Come new
    → new_lines es ++ new ≡ whole → new_lines all ≡ whole
new_rest es some all old new whole goes comes are =
    ap new_lines (comes ∙ ap (λ l. l ++ marked Come new) goes)
    ∙ new_lines-append (es ++ marked Gone old) (marked Come new)
    ∙ ap₂ (λ a b. a ++ b) (new_lines-append es (marked Gone old) ∙ ap (λ l. new_lines es ++ l) (new_gone old) ∙ append-nil (new_lines es)) (new_come new)
    ∙ are
