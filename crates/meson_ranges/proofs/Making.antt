-- The edits of two texts make the new text of the old one.
use Rattle.std.proofs.Common.{◌≡◌, ℕ, suc, zero, ◌+◌, ◌-◌, ◌<◌, ◌≤◌, Bool, true, false, cond, List, [], ◌∷◌, ◌++◌, filter, length, map, take, drop, refl, ap, ap₂, subst, subst₂, sym, ◌∙◌, inl, inr, arith}
use Rattle.std.specs.List.{All, concat}
use Rattle.std.specs.Prelude.{bytes_eq}
use Rattle.std.proofs.Math.Seq.{drop-append-add, drop-append_seam, take-append-add, take-append_seam}
use Rattle.std.proofs.lemmas.List.{append_assoc, append-nil, drop_all, length-append, length-take-le, take-append-drop}
use Rattle.std.proofs.lemmas.List.Elements.{All-cons, All-head, All-nil, All-tail}
use Rattle.std.proofs.lemmas.Slice.Eq.{bytes_eq-Decides}
use Rattle.meson_diff.specs.Alignment.{is_changed, is_old, new_lines, old_lines}
use Rattle.meson_diff.specs.Laws.{AreLines, ended, no_lines, unended}
use Rattle.meson_diff.specs.Lines.{lines}
use Rattle.meson_diff.specs.declared.entry.Entry.{Entry}
use Rattle.meson_diff.proofs.Cuts.{lines_are_the_text}
use Rattle.meson_diff.proofs.Files.{texts_are_read_off}
use Rattle.meson_ranges.specs.EditLaws.{EditsMake}
use Rattle.meson_ranges.specs.Edits.{AreApart, AreEditsOf, AreTrimmed, IsThere, Make, made_from, new_part, no_edits, old_part, one_more, whole_edit, whole_edits, whole_edits_from}
use Rattle.meson_ranges.specs.Trimming.{IsTrimmed, TextEdit}
use Rattle.meson_ranges.proofs.Runs.{kept_is_old, kept_new, kept_old, new_bytes-cons, old_bytes-cons}

-- ---- what stays, and what is replaced

-- what each edit removes is in a text that begins at that offset, and none is before the end of the one before it
abbrev pub Stand : ℕ → List TextEdit → List ℕ → Type 0
Stand at [] text = Unit {0}
Stand at (e ∷ edits) text = (at ≤ e.at) × (e.at - at + length e.was ≤ length text) × (take (length e.was) (drop (e.at - at) text) ≡ e.was)
    × Stand (e.at + length e.was) edits (drop (e.at - at + length e.was) text)

-- the edits make the new text of the old one, which begins at that offset
pub record MakeFrom (at : ℕ) (old new : List ℕ) (edits : List TextEdit) : Type 0 where
  pub made : made_from at edits old ≡ new
  pub stand : Stand at edits old

-- both texts begin with these bytes
kept : (front text new : List ℕ) (at : ℕ) (edits : List TextEdit) → MakeFrom (at + length front) text new edits
    → MakeFrom at (front ++ text) (front ++ new) edits
kept front text new at [] is = record { made = ap (λ l. front ++ l) is.made; stand = _ }
kept front text new at (e ∷ edits) is =
    let first : at + length front ≤ e.at = is.stand.0 in
    let within = is.stand.1 in
    let k = e.at - (at + length front) in
    let n : e.at - at ≡ length front + k = omega arith in
    let m : e.at - at + length e.was ≡ length front + (k + length e.was) = omega arith in
    let taken : take (e.at - at) (front ++ text) ≡ front ++ take k text = ap (λ i. take i (front ++ text)) n ∙ take-append-add front text k in
    let skipped : drop (e.at - at) (front ++ text) ≡ drop k text = ap (λ i. drop i (front ++ text)) n ∙ drop-append-add front text k in
    let left : drop (e.at - at + length e.was) (front ++ text) ≡ drop (k + length e.was) text =
    ap (λ i. drop i (front ++ text)) m ∙ drop-append-add front text (k + length e.was) in
    let end = e.at + length e.was in
    let rest = made_from end edits (drop (k + length e.was) text) in
    record {
      made = ap₂ (λ a b. a ++ (e.now ++ made_from end edits b)) taken left ∙ append_assoc front (take k text) (e.now ++ rest)
          ∙ ap (λ l. front ++ l) is.made;
      stand = (
        omega arith,
        omega (arith, length-append front text),
        ap (take (length e.was)) skipped ∙ is.stand.2,
        subst (Stand end edits) (sym left) is.stand.3,
      );
    }

-- the edit replaces the bytes with which the old text begins
replaced : (e : TextEdit) (text new : List ℕ) (edits : List TextEdit) → MakeFrom (e.at + length e.was) text new edits
    → MakeFrom e.at (e.was ++ text) (e.now ++ new) (e ∷ edits)
replaced e text new edits is =
    let none : e.at - e.at ≡ 0 = omega arith in
    let size : e.at - e.at + length e.was ≡ length e.was = omega arith in
    let left : drop (e.at - e.at + length e.was) (e.was ++ text) ≡ text = ap (λ i. drop i (e.was ++ text)) size ∙ drop-append_seam e.was text in
    let end = e.at + length e.was in
    record {
      made = ap₂ (λ n b. take n (e.was ++ text) ++ (e.now ++ made_from end edits b)) none left ∙ ap (λ l. e.now ++ l) is.made;
      stand = (
        omega arith,
        omega (arith, length-append e.was text),
        ap (λ n. take (length e.was) (drop n (e.was ++ text))) none ∙ take-append_seam e.was text,
        subst (Stand end edits) (sym left) is.stand,
      );
    }

-- ---- a trimmed edit

-- the whole edit is the trimmed one with the same bytes before and after both of its texts
pub record Parts (whole edit : TextEdit) : Type 0 where
  pub front : List ℕ
  pub back : List ℕ
  pub at : edit.at ≡ whole.at + length front
  pub was : whole.was ≡ front ++ (edit.was ++ back)
  pub now : whole.now ≡ front ++ (edit.now ++ back)

pub front_within : (n : ℕ) (text : List ℕ) → (0 < n → n ≤ length text) → n ≤ length text
front_within zero text h = omega arith
front_within (suc n) text h = h (omega arith)

front_same : (n : ℕ) (xs ys : List ℕ) → (0 < n → take n xs ≡ take n ys) → take n xs ≡ take n ys
front_same zero xs ys h = refl
front_same (suc n) xs ys h = h (omega arith)

back_same : (n : ℕ) (xs ys : List ℕ) → (0 < n → drop (length xs - n) xs ≡ drop (length ys - n) ys) → drop (length xs - n) xs ≡ drop (length ys - n) ys
back_same zero xs ys h = drop_all (length xs - 0) xs (omega arith) ∙ sym (drop_all (length ys - 0) ys (omega arith))
back_same (suc n) xs ys h = h (omega arith)

pub parts_of : (whole edit : TextEdit) → IsTrimmed whole edit → Parts whole edit
parts_of whole edit is =
    let n = is.front in
    let b = is.back in
    let was = drop n whole.was in
    let now = drop n whole.now in
    let within = front_within n whole.was (λ more. (is.longest_front.holds more).cut_was.whole.0) in
    let fronts = front_same n whole.was whole.now (λ more. (is.longest_front.holds more).same) in
    let backs = back_same b was now (λ more. (is.longest_back.holds more).same) in
    let front = take n whole.was in
    let back = drop (length was - b) was in
    record {
      front = front;
      back = back;
      at = is.at ∙ ap (λ k. whole.at + k) (sym (length-take-le n whole.was within));
      was = sym (take-append-drop n whole.was) ∙ ap (λ l. front ++ l) (sym (take-append-drop (length was - b) was) ∙ ap (λ l. l ++ back) (sym is.was));
      now = sym (take-append-drop n whole.now)
          ∙ ap₂ (λ f l. f ++ l) (sym fronts) (sym (take-append-drop (length now - b) now) ∙ ap₂ (λ l k. l ++ k) (sym is.now) (sym backs));
    }

trimmed : (whole edit : TextEdit) (text new : List ℕ) (edits : List TextEdit) → Parts whole edit → MakeFrom (whole.at + length whole.was) text new edits
    → MakeFrom whole.at (whole.was ++ text) (whole.now ++ new) (edit ∷ edits)
trimmed whole edit text new edits p is =
    let size = ap length p.was ∙ length-append p.front (edit.was ++ p.back) in
    let inner_size = length-append edit.was p.back in
    let at = p.at in
    let end : whole.at + length whole.was ≡ edit.at + length edit.was + length p.back = omega (arith, size, inner_size, at) in
    let after = kept p.back text new (edit.at + length edit.was) edits (subst (λ n. MakeFrom n text new edits) end is) in
    let middle = replaced edit (p.back ++ text) (p.back ++ new) edits after in
    let all = kept p.front (edit.was ++ (p.back ++ text)) (edit.now ++ (p.back ++ new)) whole.at (edit ∷ edits)
    (subst (λ n. MakeFrom n (edit.was ++ (p.back ++ text)) (edit.now ++ (p.back ++ new)) (edit ∷ edits)) at middle) in
    subst₂ (λ o n. MakeFrom whole.at o n (edit ∷ edits))
    (sym (ap (λ l. l ++ text) p.was ∙ append_assoc p.front (edit.was ++ p.back) text ∙ ap (λ l. p.front ++ l) (append_assoc edit.was p.back text)))
    (sym (ap (λ l. l ++ new) p.now ∙ append_assoc p.front (edit.now ++ p.back) new ∙ ap (λ l. p.front ++ l) (append_assoc edit.now p.back new)))
    all

-- ---- the edits of the entries

pub record FirstTrimmed (whole : TextEdit) (wholes edits : List TextEdit) : Type 0 where
  pub first : TextEdit
  pub more : List TextEdit
  pub all : edits ≡ first ∷ more
  pub one : IsTrimmed whole first
  pub rest : AreTrimmed wholes more

pub first_trimmed : (whole : TextEdit) (wholes edits : List TextEdit) → AreTrimmed (whole ∷ wholes) edits → FirstTrimmed whole wholes edits
first_trimmed _ _ _ (one_more whole edit wholes edits one rest) = record { first = edit; more = edits; all = refl; one = one; rest = rest }

run : (at : ℕ) (was now text new : List ℕ) (wholes edits : List TextEdit) → AreTrimmed (whole_edit at was now ++ wholes) edits
    → ((es : List TextEdit) → AreTrimmed wholes es → MakeFrom (at + length was) text new es) → MakeFrom at (was ++ text) (now ++ new) edits
run at was now text new wholes edits are rest = step (bytes_eq was now) refl are
  where
    whole : TextEdit
    whole = record { at = at; was = was; now = now }

    step : (same : Bool) → bytes_eq was now ≡ same → AreTrimmed (cond same [] (whole ∷ []) ++ wholes) edits → MakeFrom at (was ++ text) (now ++ new) edits
    step true e these =
        subst (λ n. MakeFrom at (was ++ text) (n ++ new) edits) ((bytes_eq-Decides was now).0 e) (kept was text new at edits (rest edits these))
    step false e these =
        let f = first_trimmed whole wholes edits these in
        subst (MakeFrom at (was ++ text) (now ++ new)) (sym f.all)
        (trimmed whole f.first text new f.more (parts_of whole f.first f.one) (rest f.more f.rest))

pub make : (entries : List Entry) (at : ℕ) (was now : List ℕ) (edits : List TextEdit) → AreTrimmed (whole_edits_from at was now entries) edits
    → MakeFrom at (was ++ concat (old_lines entries)) (now ++ concat (new_lines entries)) edits
make [] at was now edits are =
    run at was now [] [] [] edits (subst (λ l. AreTrimmed l edits) (sym (append-nil (whole_edit at was now))) are) (λ es these. none es these)
  where
    none : (es : List TextEdit) → AreTrimmed [] es → MakeFrom (at + length was) [] [] es
    none _ no_edits = record { made = refl; stand = _ }
make (e ∷ entries) at was now edits are =
    step (is_changed e.mark) refl are (make entries at (was ++ old_part e) (now ++ new_part e) edits) (make entries (at + length was + length e.line) [] [])
  where
    olds : List ℕ
    olds = concat (old_lines entries)

    news : List ℕ
    news = concat (new_lines entries)

    same : List TextEdit
    same = whole_edits_from at (was ++ old_part e) (now ++ new_part e) entries

    after : List TextEdit
    after = whole_edits_from (at + length was + length e.line) [] [] entries

    step : (changed : Bool) → is_changed e.mark ≡ changed → AreTrimmed (cond changed same (whole_edit at was now ++ after)) edits
        → (AreTrimmed same edits → MakeFrom at ((was ++ old_part e) ++ olds) ((now ++ new_part e) ++ news) edits)
        → ((es : List TextEdit) → AreTrimmed after es → MakeFrom (at + length was + length e.line) olds news es)
        → MakeFrom at (was ++ concat (old_lines (e ∷ entries))) (now ++ concat (new_lines (e ∷ entries))) edits
    step true c these longer next =
        subst₂ (λ o n. MakeFrom at o n edits)
        (append_assoc was (old_part e) olds ∙ ap (λ l. was ++ l) (sym (old_bytes-cons e entries)))
        (append_assoc now (new_part e) news ∙ ap (λ l. now ++ l) (sym (new_bytes-cons e entries)))
        (longer these)
    step false c these longer next =
        let old_is = ap (λ l. l ++ olds) (sym (kept_old e c)) ∙ sym (old_bytes-cons e entries) in
        let new_is = ap (λ l. l ++ news) (sym (kept_new e c)) ∙ sym (new_bytes-cons e entries) in
        run at was now (concat (old_lines (e ∷ entries))) (concat (new_lines (e ∷ entries))) after edits these
        (λ es more. subst₂ (λ o n. MakeFrom (at + length was) o n es) old_is new_is (kept e.line olds news (at + length was) es (next es more)))

-- ---- where they are in the whole text

pub are_there : (edits : List TextEdit) (at : ℕ) (front text : List ℕ) → at ≡ length front → Stand at edits text → All (IsThere (front ++ text)) edits
are_there [] at front text begins stand = All-nil (IsThere (front ++ text))
are_there (e ∷ edits) at front text begins stand =
    let first : at ≤ e.at = stand.0 in
    let within = stand.1 in
    let k = e.at - at in
    let m = k + length e.was in
    let place : e.at ≡ length front + k = omega arith in
    let more = front ++ take m text in
    let next : e.at + length e.was ≡ length more = omega (arith, length-append front (take m text), length-take-le m text within) in
    let whole : more ++ drop m text ≡ front ++ text = append_assoc front (take m text) (drop m text) ∙ ap (λ l. front ++ l) (take-append-drop m text) in
    let here : IsThere (front ++ text) e = record {
      within = omega (arith, length-append front text);
      same = ap (λ i. take (length e.was) (drop i (front ++ text))) place ∙ ap (take (length e.was)) (drop-append-add front text k) ∙ stand.2;
    } in
    All-cons (IsThere (front ++ text)) e edits here
    (subst (λ t. All (IsThere t) edits) whole (are_there edits (e.at + length e.was) more (drop m text) next stand.3))

-- ---- that they are apart

pub earlier : (edits : List TextEdit) (from to : ℕ) → from ≤ to → AreApart to edits → AreApart from edits
earlier [] from to h apart = _
earlier (e ∷ edits) from to h apart = let first = apart.0 in (omega arith, apart.1)

-- a trimmed edit is within its whole one
edit_within : (whole edit : TextEdit) → Parts whole edit → (whole.at ≤ edit.at) × (edit.at + length edit.was ≤ whole.at + length whole.was)
edit_within whole edit p =
    let at = p.at in
    let size = ap length p.was ∙ length-append p.front (edit.was ++ p.back) in
    let inner_size = length-append edit.was p.back in
    (omega (arith, at), omega (arith, at, size, inner_size))

apart_trimmed : (wholes edits : List TextEdit) (from : ℕ) → AreTrimmed wholes edits → AreApart from wholes → AreApart from edits
apart_trimmed _ _ from no_edits apart = _
apart_trimmed _ _ from (one_more whole edit wholes edits one rest) apart =
    let within = edit_within whole edit (parts_of whole edit one) in
    let first = apart.0 in (
      omega (arith, within.0),
      earlier edits (edit.at + length edit.was + 1) (whole.at + length whole.was + 1) (omega (arith, within.1))
          (apart_trimmed wholes edits (whole.at + length whole.was + 1) rest apart.1),
    )

-- a run, and edits after the kept line that follows it
apart_run : (at : ℕ) (was now : List ℕ) (more : List TextEdit) (line : ℕ) → 0 < line → AreApart (at + length was + line) more
    → AreApart at (whole_edit at was now ++ more)
apart_run at was now more line some apart = elim (bytes_eq was now) as (λ b. AreApart at (cond b [] (record { at = at; was = was; now = now } ∷ []) ++ more)) [
  | true ↦ earlier more at (at + length was + line) (omega arith) apart
  | false ↦ (omega arith, earlier more (at + length was + 1) (at + length was + line) (omega arith) apart)
]

next_lines : (e : Entry) (entries : List Entry) → All (λ l. 0 < length l) (old_lines (e ∷ entries)) → All (λ l. 0 < length l) (old_lines entries)
next_lines e entries all = step (is_old e.mark) all
  where
    step : (old : Bool) → All (λ l. 0 < length l) (map (λ (x : Entry). x.line) (cond old (e ∷ filter (λ (x : Entry). is_old x.mark) entries) (filter (λ (x : Entry). is_old x.mark) entries)))
        → All (λ l. 0 < length l) (old_lines entries)
    step true these = All-tail (λ l. 0 < length l) e.line (old_lines entries) these
    step false these = these

kept_line : (e : Entry) (entries : List Entry) → is_changed e.mark ≡ false → All (λ l. 0 < length l) (old_lines (e ∷ entries)) → 0 < length e.line
kept_line e entries kept all = All-head (λ l. 0 < length l) e.line (old_lines entries)
    (subst (λ b. All (λ l. 0 < length l) (map (λ (x : Entry). x.line) (cond b (e ∷ filter (λ (x : Entry). is_old x.mark) entries) (filter (λ (x : Entry). is_old x.mark) entries)))) (kept_is_old e.mark kept) all)

apart_wholes : (entries : List Entry) (at : ℕ) (was now : List ℕ) → All (λ l. 0 < length l) (old_lines entries) → AreApart at (whole_edits_from at was now entries)
apart_wholes [] at was now lines = subst (AreApart at) (append-nil (whole_edit at was now)) (apart_run at was now [] 1 (omega arith) _)
apart_wholes (e ∷ entries) at was now lines =
    let rest = next_lines e entries lines in
    step (is_changed e.mark) refl (apart_wholes entries at (was ++ old_part e) (now ++ new_part e) rest)
    (apart_wholes entries (at + length was + length e.line) [] [] rest)
  where
    step : (changed : Bool) → is_changed e.mark ≡ changed → AreApart at (whole_edits_from at (was ++ old_part e) (now ++ new_part e) entries)
        → AreApart (at + length was + length e.line) (whole_edits_from (at + length was + length e.line) [] [] entries)
        → AreApart at (cond changed (whole_edits_from at (was ++ old_part e) (now ++ new_part e) entries)
        (whole_edit at was now ++ whole_edits_from (at + length was + length e.line) [] [] entries))
    step true c longer next = longer
    step false c longer next =
        apart_run at was now (whole_edits_from (at + length was + length e.line) [] [] entries) (length e.line) (kept_line e entries c lines) next

lines_have_bytes : (lines : List (List ℕ)) → AreLines lines → All (λ l. 0 < length l) lines
lines_have_bytes _ no_lines = All-nil (λ (l : List ℕ). 0 < length l)
lines_have_bytes _ (unended b line none) = All-cons (λ l. 0 < length l) (b ∷ line) [] (omega arith) (All-nil (λ (l : List ℕ). 0 < length l))
lines_have_bytes _ (ended line more none rest) =
    All-cons (λ l. 0 < length l) (line ++ 10 ∷ []) more (omega (arith, length-append line (10 ∷ []))) (lines_have_bytes more rest)

-- ---- the law

pub edits_of_entries : (old new : List ℕ) (edits : List TextEdit) → AreEditsOf old new edits → Make old new edits
edits_of_entries old new edits are =
    let texts = texts_are_read_off old new are.entries are.aligned in
    let makes = make are.entries 0 [] [] edits are.trimmed in
    let stand = subst (Stand 0 edits) texts.0 makes.stand in
    let lines = subst (All (λ l. 0 < length l)) (sym are.aligned.of_old) (lines_have_bytes (lines old) (lines_are_the_text old).0) in
    record {
      made = ap (made_from 0 edits) (sym texts.0) ∙ makes.made ∙ texts.1;
      apart = apart_trimmed (whole_edits are.entries) edits 0 are.trimmed (apart_wholes are.entries 0 [] [] lines);
      there = are_there edits 0 [] old refl stand;
    }

none_make : (old new : List ℕ) (edits : List TextEdit) → old ≡ new → edits ≡ [] → Make old new edits
none_make old new edits same none =
    subst (Make old new) (sym none) (record { made = same; apart = _; there = All-nil (IsThere old) })

pub edits_make : EditsMake
edits_make old new edits (inl none) = none_make old new edits none.0 none.1
edits_make old new edits (inr some) = edits_of_entries old new edits some.1
