-- The lines with which both texts begin and end.
use Rattle.std.proofs.Common.{◌≡◌, ℕ, ◌-◌, ◌<◌, List, [], ◌∷◌, ◌++◌, get_or, length, take, drop, ap, ap₂, sym, ◌∙◌, arith}
use Rattle.std.proofs.lemmas.List.{append_assoc, drop_more, get_or-take, get_or_push, length-append, length-drop, length-take-le}
use Rattle.meson_diff.specs.Alignment.{BeginApart, EndApart, IsMeeting, marked, new_lines, old_lines}
use Rattle.meson_diff.specs.declared.entry.Entry.{Entry}
use Rattle.meson_diff.specs.declared.entry.Mark.TheVariants.{Kept}
use Rattle.meson_diff.proofs.Joins.{new_kept, new_lines-append, old_kept, old_lines-append}

-- ---- one line behind so many

line_behind : (whole : List (List ℕ)) (n : ℕ) (line : List ℕ) (rest : List (List ℕ)) → drop n whole ≡ line ∷ rest → n < length whole
line_behind whole n line rest is = omega (arith, length-drop n whole, ap length is)

line_at : (whole : List (List ℕ)) (n : ℕ) (line : List ℕ) (rest : List (List ℕ)) → drop n whole ≡ line ∷ rest → (d : List ℕ) → get_or whole n d ≡ line
line_at whole n line rest is d =
    let both = sym (drop_more whole n d (line_behind whole n line rest is)) ∙ is in
    let first : get_or whole n d ≡ line = cc in
    first

pub begin_apart : (old new : List (List ℕ)) (n : ℕ) → (IsMeeting old new n n → ⊥) → BeginApart (drop n old) (drop n new)
begin_apart old new n apart line os ns is_old is_new =
    apart (record {
      in_old = line_behind old n line os is_old;
      in_new = line_behind new n line ns is_new;
      one_line = λ d. line_at old n line os is_old d ∙ sym (line_at new n line ns is_new d);
    })

-- ---- one line before so many

last_place : (whole : List (List ℕ)) (n : ℕ) (line : List ℕ) (front : List (List ℕ)) → take (length whole - n) whole ≡ front ++ line ∷ []
    → (n < length whole) × (length front ≡ length whole - 1 - n)
last_place whole n line front is =
    let size = length-take-le (length whole - n) whole (omega arith) in
    let many = length-append front (line ∷ []) in
    let both = ap length is in
    (omega (arith, size, many, both), omega (arith, size, many, both))

last_at : (whole : List (List ℕ)) (n : ℕ) (line : List ℕ) (front : List (List ℕ)) → take (length whole - n) whole ≡ front ++ line ∷ []
    → (d : List ℕ) → get_or whole (length whole - 1 - n) d ≡ line
last_at whole n line front is d =
    let place = last_place whole n line front is in
    let i = length whole - 1 - n in
    let within : i < length whole - n = omega (arith, place.0) in
    sym (get_or-take (length whole - n) whole i d within) ∙ ap (λ l. get_or l i d) is ∙ get_or_push front line d i place.1

pub end_apart : (old new : List (List ℕ)) (n : ℕ)
    → (n < length old → n < length new → IsMeeting old new (length old - 1 - n) (length new - 1 - n) → ⊥)
    → EndApart (take (length old - n) old) (take (length new - n) new)
end_apart old new n apart line os ns is_old is_new =
    let in_old = (last_place old n line os is_old).0 in
    let in_new = (last_place new n line ns is_new).0 in
    apart in_old in_new (record {
      in_old = omega (arith, in_old);
      in_new = omega (arith, in_new);
      one_line = λ d. last_at old n line os is_old d ∙ sym (last_at new n line ns is_new d);
    })

-- what stands behind the first lines ends as the whole does
pub rest_apart : (old new a b os ns : List (List ℕ)) → EndApart old new → old ≡ a ++ os → new ≡ b ++ ns → EndApart os ns
rest_apart old new a b os ns apart old_is new_is line xs ys xs_are ys_are =
    apart line (a ++ xs) (b ++ ys)
    (old_is ∙ ap (λ l. a ++ l) xs_are ∙ sym (append_assoc a xs (line ∷ [])))
    (new_is ∙ ap (λ l. b ++ l) ys_are ∙ sym (append_assoc b ys (line ∷ [])))

-- ---- the whole

pub joined_ends : (none head whole all between : List Entry) (begin end : List (List ℕ)) → none ≡ [] → head ≡ none ++ marked Kept begin → whole ≡ head ++ between
    → all ≡ whole ++ marked Kept end → all ≡ marked Kept begin ++ (between ++ marked Kept end)
joined_ends none head whole all between begin end empty begins goes_on ends =
    ends
    ∙ ap (λ l. l ++ marked Kept end) (goes_on ∙ ap (λ l. l ++ between) (begins ∙ ap (λ l. l ++ marked Kept begin) empty))
    ∙ append_assoc (marked Kept begin) between (marked Kept end)

pub old_of_ends : (all between : List Entry) (begin rest end front whole : List (List ℕ)) → all ≡ marked Kept begin ++ (between ++ marked Kept end)
    → old_lines between ≡ rest → front ≡ begin ++ rest → whole ≡ front ++ end → old_lines all ≡ whole
old_of_ends all between begin rest end front whole parts lines front_is whole_is =
    ap old_lines parts
    ∙ old_lines-append (marked Kept begin) (between ++ marked Kept end)
    ∙ ap₂ (λ a b. a ++ b) (old_kept begin) (old_lines-append between (marked Kept end) ∙ ap₂ (λ a b. a ++ b) lines (old_kept end))
    ∙ sym (whole_is ∙ ap (λ l. l ++ end) front_is ∙ append_assoc begin rest end)

pub new_of_ends : (all between : List Entry) (begin rest end front whole : List (List ℕ)) → all ≡ marked Kept begin ++ (between ++ marked Kept end)
    → new_lines between ≡ rest → front ≡ begin ++ rest → whole ≡ front ++ end → new_lines all ≡ whole
new_of_ends all between begin rest end front whole parts lines front_is whole_is =
    ap new_lines parts
    ∙ new_lines-append (marked Kept begin) (between ++ marked Kept end)
    ∙ ap₂ (λ a b. a ++ b) (new_kept begin) (new_lines-append between (marked Kept end) ∙ ap₂ (λ a b. a ++ b) lines (new_kept end))
    ∙ sym (whole_is ∙ ap (λ l. l ++ end) front_is ∙ append_assoc begin rest end)
