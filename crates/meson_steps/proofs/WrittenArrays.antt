-- The array of some expressions is written where each of them is: its items, words, levels and depth. So is a truth value.
use Rattle.meson_steps.proofs.Words.{◌≡◌, ℕ, ◌+◌, ◌≤◌, true, false, List, [], ◌∷◌, ◌++◌, codes, map, refl, sym, ap, ap₂, ◌∙◌, arith, Bool, if◌then◌else◌}
use Rattle.meson_steps.proofs.Words.{IsUtf8-append, AreItems, Lexeme, joined, Word, spoken, AreItems-append, joined-append, comma, space, open_square}
use Rattle.meson_steps.proofs.Words.{close_square, remarks, Flagged, LevelArguments, LevelExpression, arguments_depth, arguments_words, expression_depth}
use Rattle.meson_steps.proofs.Words.{expression_words, Arguments, boolean, Expression, Nowhere, plain, arguments_of, Every, Written, IsWritten, array_of_values}
use Rattle.meson_steps.proofs.Words.{comma_between}
use Rattle.std.proofs.Common.{append-nil, append_assoc, IsUtf8}
use Rattle.std.specs.Char.{encode_utf8}
use Rattle.meson_lex.specs.declared.kinds.Kind.TheVariants as k
use Rattle.meson_lex.specs.Bytes.{is_blank, begins}
use Rattle.meson_layout.proofs.Ends.{remarks-append, spoken-append}
use Rattle.meson_syntax.specs.declared.operator.Bracket.TheVariants as bracket
use Rattle.meson_syntax.specs.Operators.{boolean_kind}
use Rattle.meson_steps.proofs.Bracketed.{items_stop}
use Rattle.meson_steps.proofs.KeyedWritten.{written_first}

abbrev pub Value : Type 0
Value = Written (Expression Nowhere)

abbrev pub IsOne : Value → Type 0
IsOne w = IsWritten w.bytes (expression_words w.node)

abbrev pub AreWritten : List Value → Type 0
AreWritten = Every IsOne

-- ---- the items between the brackets

abbrev behind : (ws : List Value) → AreWritten ws → List Lexeme
behind [] are = []
behind (w ∷ ws) are = comma ∷ space ∷ (are.0.items ++ behind ws are.1)

abbrev inner : (ws : List Value) → AreWritten ws → List Lexeme
inner [] are = []
inner (w ∷ ws) are = are.0.items ++ behind ws are.1

-- what comes behind a value begins with a comma or the bracket
own_items : (w : Value) (is : IsOne w) (ws : List Value) (are : AreWritten ws) → AreItems is.items (joined (behind ws are) ++ 93 ∷ [])
own_items w is [] are = items_stop true [] is.items is.is_new.no_remarks is.is_new.are_items.each
own_items w is (v ∷ ws) are = items_stop false (32 ∷ (joined (are.0.items ++ behind ws are.1) ++ 93 ∷ [])) is.items is.is_new.no_remarks is.is_new.are_items.each

behind_items : (ws : List Value) (are : AreWritten ws) → AreItems (behind ws are) (93 ∷ [])
behind_items [] are = tt
behind_items (w ∷ ws) are =
    let rest = joined (behind ws are.1) ++ 93 ∷ [] in
    let first : begins is_blank (joined (are.0.items ++ behind ws are.1) ++ 93 ∷ []) ≡ false =
    ap (begins is_blank) (ap (λ l. l ++ 93 ∷ []) (joined-append are.0.items (behind ws are.1)) ∙ append_assoc (joined are.0.items) (joined (behind ws are.1)) (93 ∷ [])) ∙ written_first are.0 rest in
    ((refl, refl, tt), (((refl, refl), refl, first), AreItems-append are.0.items (behind ws are.1) (93 ∷ []) (own_items w are.0 ws are.1) (behind_items ws are.1)))

inner_items : (ws : List Value) (are : AreWritten ws) → AreItems (inner ws are) (93 ∷ [])
inner_items [] are = tt
inner_items (w ∷ ws) are = AreItems-append are.0.items (behind ws are.1) (93 ∷ []) (own_items w are.0 ws are.1) (behind_items ws are.1)

-- ---- their bytes

abbrev texts : List Value → List (List ℕ)
texts = map (λ w. w.bytes)

behind_joined : (w : Value) (is : IsOne w) (ws : List Value) (are : AreWritten ws) → joined (is.items ++ behind ws are) ≡ comma_between (texts (w ∷ ws))
behind_joined w is [] are = ap joined (append-nil is.items) ∙ is.is_new.are_items.joins
behind_joined w is (v ∷ ws) are = joined-append is.items (behind (v ∷ ws) are) ∙ ap₂ (λ a b. a ++ (codes ", " ++ b)) is.is_new.are_items.joins (behind_joined v are.0 ws are.1)

inner_joined : (ws : List Value) (are : AreWritten ws) → joined (inner ws are) ≡ comma_between (texts ws)
inner_joined [] are = refl
inner_joined (w ∷ ws) are = behind_joined w are.0 ws are.1

-- ---- their words

abbrev nodes : List Value → Arguments Nowhere
nodes ws = arguments_of (map plain (map (λ w. w.node) ws))

abbrev words : List Value → List Word
words ws = arguments_words (nodes ws) false

behind_words : (w : Value) (is : IsOne w) (ws : List Value) (are : AreWritten ws) (more : List Lexeme) → spoken ((is.items ++ behind ws are) ++ more) ≡ words (w ∷ ws) ++ spoken more
behind_words w is [] are more =
    ap (λ l. spoken (l ++ more)) (append-nil is.items) ∙ spoken-append is.items more ∙ ap (λ l. l ++ spoken more) (is.is_words ∙ sym (append-nil (expression_words w.node)))
behind_words w is (v ∷ ws) are more =
    ap spoken (append_assoc is.items (behind (v ∷ ws) are) more) ∙ spoken-append is.items (behind (v ∷ ws) are ++ more)
    ∙ ap₂ (λ a b. a ++ (k.Comma, []) ∷ b) is.is_words (behind_words v are.0 ws are.1 more)
    ∙ sym (append_assoc (expression_words w.node) ((k.Comma, []) ∷ words (v ∷ ws)) (spoken more))

inner_words : (ws : List Value) (are : AreWritten ws) (more : List Lexeme) → spoken (inner ws are ++ more) ≡ words ws ++ spoken more
inner_words [] are more = refl
inner_words (w ∷ ws) are more = behind_words w are.0 ws are.1 more

behind_remarks : (ws : List Value) (are : AreWritten ws) → remarks (behind ws are) ≡ []
behind_remarks [] are = refl
behind_remarks (w ∷ ws) are = remarks-append are.0.items (behind ws are.1) ∙ ap₂ (λ a b. a ++ b) are.0.is_new.no_remarks (behind_remarks ws are.1)

inner_remarks : (ws : List Value) (are : AreWritten ws) → remarks (inner ws are) ≡ []
inner_remarks [] are = refl
inner_remarks (w ∷ ws) are = remarks-append are.0.items (behind ws are.1) ∙ ap₂ (λ a b. a ++ b) are.0.is_new.no_remarks (behind_remarks ws are.1)

-- ---- UTF-8, levels and depth

open_text : IsUtf8 (codes "[")
unfolding encode_utf8
open_text = (codes "[", (refl, refl))

close_text : IsUtf8 (codes "]")
unfolding encode_utf8
close_text = (codes "]", (refl, refl))

between_text : IsUtf8 (codes ", ")
unfolding encode_utf8
between_text = (codes ", ", (refl, refl))

inner_text : (ws : List Value) → AreWritten ws → IsUtf8 (comma_between (texts ws))
inner_text [] are = ([], (refl, refl))
inner_text (w ∷ []) are = are.0.utf8
inner_text (w ∷ v ∷ ws) are =
    IsUtf8-append w.bytes (codes ", " ++ comma_between (texts (v ∷ ws))) are.0.utf8 (IsUtf8-append (codes ", ") (comma_between (texts (v ∷ ws))) between_text (inner_text (v ∷ ws) are.1))

pub array_written : (ws : List Value) → AreWritten ws → IsWritten (91 ∷ (comma_between (texts ws) ++ 93 ∷ [])) (expression_words (array_of_values (map (λ w. w.node) ws)))
array_written ws are = record {
  items = open_square ∷ (inner ws are ++ close_square ∷ []);
  is_new = record {
    are_items = record {
      joins = ap (λ l. 91 ∷ l) (joined-append (inner ws are) (close_square ∷ []) ∙ ap (λ l. l ++ 93 ∷ []) (inner_joined ws are));
      each = ((refl, refl, tt), AreItems-append (inner ws are) (close_square ∷ []) [] (inner_items ws are) ((refl, refl, tt), tt));
    };
    tight = record { first = open_square; more = inner ws are ++ close_square ∷ []; begins = refl; first_speaks = refl; front = open_square ∷ inner ws are; last = close_square; ends = refl; last_speaks = refl };
    no_remarks = remarks-append (inner ws are) (close_square ∷ []) ∙ ap (λ l. l ++ []) (inner_remarks ws are);
  };
  is_words = ap (λ l. (k.OpenSquare, []) ∷ l) (inner_words ws are (close_square ∷ []));
  utf8 =
      IsUtf8-append (codes "[") (comma_between (texts ws) ++ codes "]") open_text
      (IsUtf8-append (comma_between (texts ws)) (codes "]") (inner_text ws are) close_text);
}

flagged : (ws : List Value) → Flagged false (nodes ws)
flagged [] = refl
flagged (w ∷ ws) = tt

levels : (ws : List Value) → Every (λ w. LevelExpression w.node) ws → LevelArguments (nodes ws) bracket.Square false
levels [] are = tt
levels (w ∷ ws) are = ((refl, refl, are.0), levels ws are.1)

pub array_level : (ws : List Value) → Every (λ w. LevelExpression w.node) ws → LevelExpression (array_of_values (map (λ w. w.node) ws))
array_level ws are = (flagged ws, levels ws are)

low : (d : ℕ) (ws : List Value) → Every (λ w. expression_depth w.node ≤ d) ws → arguments_depth (nodes ws) ≤ d
low d [] are = omega arith
low d (w ∷ ws) are = let here = are.0 in let rest = low d ws are.1 in omega (arith, here, rest)

pub array_low : (d : ℕ) (ws : List Value) → Every (λ w. expression_depth w.node ≤ d) ws → expression_depth (array_of_values (map (λ w. w.node) ws)) ≤ d + 1
array_low d ws are = let all = low d ws are in omega (arith, all)

-- ---- a truth value

abbrev truth_text : Bool → List ℕ
truth_text b = if b then codes "true" else codes "false"

truth_utf8 : (b : Bool) → IsUtf8 (truth_text b)
unfolding encode_utf8
truth_utf8 true = (codes "true", (refl, refl))
truth_utf8 false = (codes "false", (refl, refl))

abbrev truth_item : Bool → Lexeme
truth_item b = record { kind = boolean_kind b; text = truth_text b }

abbrev truth_node : Bool → Expression Nowhere
truth_node b = boolean tt b

pub truth_written : (b : Bool) → IsWritten (truth_text b) (expression_words (truth_node b))
truth_written true = record {
  items = truth_item true ∷ [];
  is_new = record {
    are_items = record { joins = refl; each = ((refl, refl, refl), tt) };
    tight = record { first = truth_item true; more = []; begins = refl; first_speaks = refl; front = []; last = truth_item true; ends = refl; last_speaks = refl };
    no_remarks = refl;
  };
  is_words = refl;
  utf8 = truth_utf8 true;
}
truth_written false = record {
  items = truth_item false ∷ [];
  is_new = record {
    are_items = record { joins = refl; each = ((refl, refl, refl), tt) };
    tight = record { first = truth_item false; more = []; begins = refl; first_speaks = refl; front = []; last = truth_item false; ends = refl; last_speaks = refl };
    no_remarks = refl;
  };
  is_words = refl;
  utf8 = truth_utf8 false;
}
