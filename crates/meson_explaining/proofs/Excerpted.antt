-- What is said of a file that does not parse has no control characters beside the ends of its lines.
use Rattle.std.proofs.Common.{◌≡◌, ◌∙◌, ℕ, Bool, true, false, List, [], ◌∷◌, ◌++◌, Option, Some, None, map, codes, refl, sym, ap, subst, append-nil, append_assoc}
use Rattle.std.specs.Prelude.{if◌then◌else◌, ◌||◌, encode_utf8_all, flat_map, reverse}
use Rattle.std.specs.List.{list_any}
use Rattle.std.specs.Char.{is_control}
use Rattle.std.proofs.lemmas.Grind.{flat_map-append}
use Rattle.std.proofs.lemmas.List.Elements.{All-append, All-cons, All-nil}
use Rattle.std.proofs.lemmas.List.Folds.{list_any-append}
use Rattle.std.proofs.lemmas.List.Sorted.{IsPermutation-reverse, list_any-IsPermutation}
use Rattle.std.proofs.lemmas.Str.{encodes-append}
use Rattle.meson_explaining.proofs.Printed.{printable_has_no_control}
use Rattle.meson_explaining.specs.Excerpts.{chars_after, chars_before, excerpt, fault_help, fault_note, helped_lines, last_before, noted_lines, plain_char, shown_after, shown_before}
use Rattle.meson_explaining.specs.Laws.{AreShown, FaultLinesHaveNoControl, HasNoControl}

abbrev ended : List ℕ → List ℕ
ended l = l ++ codes "\n"

none : AreShown []
none = record { lines = []; are_lines = refl; each = All-nil HasNoControl }

one : (l : List ℕ) → HasNoControl l → AreShown (l ++ codes "\n")
one l h = record { lines = l ∷ []; are_lines = sym (append-nil (l ++ codes "\n")); each = All-cons HasNoControl l [] h (All-nil HasNoControl) }

both : (x y : List ℕ) → AreShown x → AreShown y → AreShown (x ++ y)
both x y a b = record {
  lines = a.lines ++ b.lines;
  are_lines = ap (λ (l : List ℕ). l ++ y) a.are_lines ∙ ap (λ (l : List ℕ). flat_map ended a.lines ++ l) b.are_lines ∙ sym (flat_map-append ended a.lines b.lines);
  each = All-append HasNoControl a.lines b.lines a.each b.each;
}

-- ---- characters

plain-is : (c : ℕ) (b : Bool) → is_control c ≡ b → is_control (if b then 32 else c) ≡ false
plain-is c true is = refl
plain-is c false is = is

plain : (cs : List ℕ) → list_any is_control (map plain_char cs) ≡ false
plain [] = refl
plain (c ∷ cs) = ap (λ b. b || list_any is_control (map plain_char cs)) (plain-is c (is_control c) refl) ∙ plain cs

blank : (cs : List ℕ) → list_any is_control (map (λ c. 32) cs) ≡ false
blank [] = refl
blank (c ∷ cs) = blank cs

joined : (a b : List ℕ) → list_any is_control a ≡ false → list_any is_control b ≡ false → list_any is_control (a ++ b) ≡ false
joined a b first second = list_any-append is_control a b ∙ ap (λ x. x || list_any is_control b) first ∙ second

-- ---- the line and its mark

regroup : (before after blanks : List ℕ) → codes "    " ++ (before ++ (after ++ (codes "\n    " ++ (blanks ++ codes "^\n"))))
    ≡ ((codes "    " ++ (before ++ after)) ++ codes "\n") ++ ((codes "    " ++ (blanks ++ codes "^")) ++ codes "\n")
regroup before after blanks =
    let rest = (codes "    " ++ (blanks ++ codes "^")) ++ codes "\n" in
    sym (ap (λ (l : List ℕ). codes "    " ++ l)
    (append_assoc (before ++ after) (codes "\n") rest ∙ append_assoc before after (codes "\n" ++ rest)
    ∙ ap (λ (l : List ℕ). before ++ (after ++ (codes "\n    " ++ l))) (append_assoc blanks (codes "^") (codes "\n"))))

indented : (a b : List ℕ) → list_any is_control a ≡ false → list_any is_control b ≡ false → HasNoControl (codes "    " ++ (encode_utf8_all a ++ encode_utf8_all b))
unfolding lib.Utf8.encode
indented a b first second = record {
  characters = codes "    " ++ (a ++ b);
  are_characters = ap (λ (l : List ℕ). codes "    " ++ l) (sym (encodes-append a b));
  none = joined a b first second;
}

shown : (before after : List ℕ) → list_any is_control before ≡ false → list_any is_control after ≡ false
    → AreShown (codes "    " ++ (encode_utf8_all before ++ (encode_utf8_all after ++ (codes "\n    " ++ (encode_utf8_all (map (λ c. 32) before) ++ codes "^\n")))))
unfolding lib.Utf8.encode
shown before after first second =
    let blanks : List ℕ = map (λ c. 32) before in
    subst AreShown (sym (regroup (encode_utf8_all before) (encode_utf8_all after) (encode_utf8_all blanks)))
    (both _ _ (one _ (indented before after first second)) (one _ (indented blanks (codes "^") (blank before) refl)))

excerpt-shown : (bytes : List ℕ) (place : ℕ) → AreShown (excerpt bytes place)
excerpt-shown bytes place =
    let before = last_before bytes place in
    shown (shown_before bytes place) (shown_after bytes place)
    (sym (list_any-IsPermutation is_control before (reverse before) (IsPermutation-reverse before)) ∙ plain (chars_before bytes place)) (plain (chars_after bytes place))

-- ---- all lines

noted : (name bytes : List ℕ) (note : Option (ℕ × List ℕ)) → AreShown (noted_lines name bytes note)
noted name bytes None = none
noted name bytes (Some note) = both _ _ (one _ (printable_has_no_control _)) (excerpt-shown bytes note.0)

helped : (help : Option (List ℕ)) → AreShown (helped_lines help)
helped None = none
helped (Some text) = one _ (printable_has_no_control _)

pub fault_lines_have_no_control : FaultLinesHaveNoControl
fault_lines_have_no_control name bytes fault = both _ _ (noted name bytes (fault_note fault)) (helped (fault_help fault))
