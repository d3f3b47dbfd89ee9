-- Entries that keep the nearest lines.
use Rattle.std.proofs.Common.{◌≡◌, ℕ, ◌+◌, List, [], ◌∷◌, ◌++◌, drop, get_or, length, take, ap, ap₂, subst, subst₂, sym, ◌∙◌, arith}
use Rattle.std.specs.Prelude.{slice_range}
use Rattle.std.proofs.lemmas.List.{append_assoc, append-nil, length-take-le}
use Rattle.meson_diff.specs.Alignment.{GoOn, IsMeeting, KeepsNearest, NoneNearer, NoneOfBoth, marked, nearest, new_lines, none_left, old_lines}
use Rattle.meson_diff.specs.declared.entry.Entry.{Entry}
use Rattle.meson_diff.specs.declared.entry.Mark.TheVariants.{Kept, Gone, Come}
use Rattle.meson_diff.proofs.Joins.{kept_one, new_come, new_gone, new_lines-append, old_come, old_gone, old_lines-append, slice_one}

row : (a b c d e : List Entry) → (((a ++ b) ++ c) ++ d) ++ e ≡ a ++ (b ++ (c ++ (d ++ e)))
row a b c d e = append_assoc ((a ++ b) ++ c) d e ∙ append_assoc (a ++ b) c (d ++ e) ∙ append_assoc a b (c ++ (d ++ e))

old_of_change : (gone come : List (List ℕ)) (behind : List Entry) → old_lines (marked Gone gone ++ (marked Come come ++ behind)) ≡ gone ++ old_lines behind
old_of_change gone come behind =
    old_lines-append (marked Gone gone) (marked Come come ++ behind)
    ∙ ap₂ (λ a b. a ++ b) (old_gone gone) (old_lines-append (marked Come come) behind ∙ ap (λ l. l ++ old_lines behind) (old_come come))

new_of_change : (gone come : List (List ℕ)) (behind : List Entry) → new_lines (marked Gone gone ++ (marked Come come ++ behind)) ≡ come ++ new_lines behind
new_of_change gone come behind =
    new_lines-append (marked Gone gone) (marked Come come ++ behind)
    ∙ ap₂ (λ a b. a ++ b) (new_gone gone) (new_lines-append (marked Come come) behind ∙ ap (λ l. l ++ new_lines behind) (new_come come))

-- one more change, and the line behind it
pub nearest_more : (es all : List Entry) (old new : List (List ℕ)) (gone come : ℕ) → IsMeeting old new gone come
    → all ≡ ((es ++ marked Gone (take gone old)) ++ marked Come (take come new)) ++ marked Kept (slice_range old gone (gone + 1))
    → NoneNearer old new (gone + come) → GoOn old new es → GoOn (drop (gone + 1) old) (drop (come + 1) new) all
nearest_more es all old new gone come meets are none so_far behind of_old of_new keeps =
    let line = get_or old gone [] in
    let goes = take gone old in
    let comes = take come new in
    let rest = marked Kept (line ∷ []) ++ behind in
    let whole = marked Gone goes ++ (marked Come comes ++ rest) in
    let one = ap (marked Kept) (slice_one old gone meets.in_old) in
    let parts = ap (λ l. l ++ behind) (are ∙ ap (λ k. ((es ++ marked Gone goes) ++ marked Come comes) ++ k) one)
    ∙ row es (marked Gone goes) (marked Come comes) (marked Kept (line ∷ [])) behind in
    let old_is : goes ++ line ∷ old_lines behind ≡ old = ap (λ l. goes ++ line ∷ l) of_old ∙ kept_one old gone meets.in_old in
    let new_is : comes ++ line ∷ new_lines behind ≡ new =
    ap₂ (λ x l. comes ++ x ∷ l) (meets.one_line []) of_new ∙ kept_one new come meets.in_new in
    let many_old = length-take-le gone old (omega (arith, meets.in_old)) in
    let many_new = length-take-le come new (omega (arith, meets.in_new)) in
    let many = ap₂ (λ a b. a + b) many_old many_new in
    let far = subst₂ (λ os ns. NoneNearer os ns (length goes + length comes)) (sym old_is) (sym new_is) (subst (NoneNearer old new) (sym many) none) in
    subst KeepsNearest (sym parts)
    (so_far whole (old_of_change goes comes rest ∙ old_is) (new_of_change goes comes rest ∙ new_is) (nearest goes comes line behind far keeps))

-- the rest goes, and then comes
pub nearest_last : (es some all : List Entry) (old new : List (List ℕ)) → some ≡ es ++ marked Gone old → all ≡ some ++ marked Come new
    → NoneOfBoth old new → GoOn old new es → KeepsNearest all
nearest_last es some all old new goes comes none so_far =
    let parts = comes ∙ ap (λ l. l ++ marked Come new) goes ∙ append_assoc es (marked Gone old) (marked Come new) in
    let whole = marked Gone old ++ marked Come new in
    let of_old = old_lines-append (marked Gone old) (marked Come new) ∙ ap₂ (λ a b. a ++ b) (old_gone old) (old_come new) ∙ append-nil old in
    let of_new = new_lines-append (marked Gone old) (marked Come new) ∙ ap₂ (λ a b. a ++ b) (new_gone old) (new_come new) in
    subst KeepsNearest (sym parts) (so_far whole of_old of_new (none_left old new none))

-- what keeps the nearest where it starts with no entries
pub from_none : (none all : List Entry) (old new : List (List ℕ)) → none ≡ [] → (GoOn old new none → KeepsNearest all) → KeepsNearest all
from_none none all old new empty keeps = keeps (subst (GoOn old new) (sym empty) (λ behind of_old of_new these. these))
