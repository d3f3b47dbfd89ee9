-- What is written for an element, for a list of elements and for a switch: bytes that spell its tree.
use Rattle.meson_keywords.proofs.Words.{◌≡◌, ℕ, ◌≤◌, true, false, List, [], ◌∷◌, ◌++◌, map, refl, sym}
use Rattle.meson_keywords.proofs.Words.{ap, ◌∙◌, subst, arith, Bool, All, Result, Ok, Err, IfOk, if◌then◌else◌, list_all, and_parts}
use Rattle.meson_keywords.proofs.Words.{append-nil, All-head, All-tail, is_quote, is_word_byte, begins}
use Rattle.meson_keywords.proofs.Words.{Lexeme, IsItem, role, spoken, speaks, Kind, literal_text, literal_string, literal_return}
use Rattle.meson_keywords.proofs.Words.{remarks, expression_words, expression_depth}
use Rattle.meson_keywords.proofs.Words.{LevelExpression, Nowhere}
use Rattle.meson_keywords.proofs.Words.{Expression, Written, IsWritten, one_of, Refusal, distinct_by, comma_between, WrittenFor, IsSet, IsElement}
use Rattle.meson_keywords.proofs.Words.{AreElements, are_elements, element_bytes, element_node, is_identifier, truth_text, written_list, written_switch}
use Rattle.meson_keywords.proofs.Words.{ElementKind}
use Rattle.std.proofs.Common.{IsUtf8}
use Rattle.meson_lex.specs.declared.kinds.Kind.TheVariants as k
use Rattle.meson_keywords.specs.declared.value_kinds.ElementKind.TheVariants as element
use Rattle.meson_steps.proofs.Identifiers.{identifier_true}
use Rattle.meson_steps.proofs.KeyedWritten.{word_return}
use Rattle.meson_steps.proofs.WrittenArrays.{AreWritten, Value, array_level, array_low, array_written, truth_written}
use Rattle.meson_steps.specs.WrittenTexts.{array_of_values}
use Rattle.meson_syntax.proofs.paths.Every.{Every}

-- ---- one element

abbrev token : ElementKind → Kind
token element.Text = k.PlainString
token element.Identifier = k.Identifier

abbrev element_item : ElementKind → List ℕ → Lexeme
element_item e t = record { kind = token e; text = element_bytes e t }

element_stands : (e : ElementKind) (t rest : List ℕ) → IsElement e t → begins is_word_byte rest ≡ false → begins is_quote rest ≡ false → IsItem (element_item e t) rest
element_stands element.Text t rest is no_word no_quote = (literal_string t, literal_return t, λ empty. no_quote)
element_stands element.Identifier t rest is no_word no_quote = (is.0, word_return t is.0.0, (no_word, λ f. no_quote))

element_utf8 : (e : ElementKind) (t : List ℕ) → IsElement e t → IsUtf8 (element_bytes e t)
element_utf8 element.Text t is = literal_text t is
element_utf8 element.Identifier t is = is.1

element_spoken : (e : ElementKind) (t : List ℕ) (more : List Lexeme) → spoken (element_item e t ∷ more) ≡ expression_words (element_node e t) ++ spoken more
element_spoken element.Text t more = refl
element_spoken element.Identifier t more = refl

pub element_level : (e : ElementKind) (t : List ℕ) → LevelExpression (element_node e t)
element_level element.Text t = tt
element_level element.Identifier t = tt

pub element_flat : (e : ElementKind) (t : List ℕ) → expression_depth (element_node e t) ≡ 0
element_flat element.Text t = refl
element_flat element.Identifier t = refl

pub element_written : (e : ElementKind) (t : List ℕ) → IsElement e t → IsWritten (element_bytes e t) (expression_words (element_node e t))
element_written e t is = record {
  items = element_item e t ∷ [];
  is_new = record {
    are_items = record { joins = append-nil (element_bytes e t); each = (element_stands e t [] is refl refl, tt) };
    tight = record { first = element_item e t; more = []; begins = refl; first_speaks = speaks_it e; front = []; last = element_item e t; ends = refl; last_speaks = speaks_it e };
    no_remarks = none_there e;
  };
  is_words = element_spoken e t [] ∙ append-nil (expression_words (element_node e t));
  utf8 = element_utf8 e t is;
}
  where
    speaks_it : (e : ElementKind) → speaks (role (token e)) ≡ true
    speaks_it element.Text = refl
    speaks_it element.Identifier = refl

    none_there : (e : ElementKind) → remarks (element_item e t ∷ []) ≡ []
    none_there element.Text = refl
    none_there element.Identifier = refl

-- ---- a list of elements

abbrev pub element_value : ElementKind → List ℕ → Written (Expression Nowhere)
element_value e t = record { bytes = element_bytes e t; node = element_node e t }

each_written : (e : ElementKind) (ts : List (List ℕ)) → AreElements e ts → AreWritten (map (element_value e) ts)
each_written e [] are = tt
each_written e (t ∷ ts) are = (element_written e t are.0, each_written e ts are.1)

each_level : (e : ElementKind) (ts : List (List ℕ)) → Every (λ (w : Value). LevelExpression w.node) (map (element_value e) ts)
each_level e [] = tt
each_level e (t ∷ ts) = (element_level e t, each_level e ts)

each_flat : (e : ElementKind) (ts : List (List ℕ)) → Every (λ (w : Value). expression_depth w.node ≤ 0) (map (element_value e) ts)
each_flat e [] = tt
each_flat e (t ∷ ts) = let flat = element_flat e t in (omega (arith, flat), each_flat e ts)

bytes_of : (e : ElementKind) (ts : List (List ℕ)) → map (λ (w : Value). w.bytes) (map (element_value e) ts) ≡ map (element_bytes e) ts
bytes_of e [] = refl
bytes_of e (t ∷ ts) = ap (λ l. element_bytes e t ∷ l) (bytes_of e ts)

nodes_of : (e : ElementKind) (ts : List (List ℕ)) → map (λ (w : Value). w.node) (map (element_value e) ts) ≡ map (element_node e) ts
nodes_of e [] = refl
nodes_of e (t ∷ ts) = ap (λ l. element_node e t ∷ l) (nodes_of e ts)

-- the array of them
pub list_written : (e : ElementKind) (ts : List (List ℕ)) → AreElements e ts → IsWritten (written_list e ts).bytes (expression_words (written_list e ts).node)
list_written e ts are =
    subst (λ bs. IsWritten (91 ∷ (comma_between bs ++ 93 ∷ [])) (expression_words (written_list e ts).node)) (bytes_of e ts)
    (subst (λ ns. IsWritten (91 ∷ (comma_between (map (λ (w : Value). w.bytes) (map (element_value e) ts)) ++ 93 ∷ [])) (expression_words (array_of_values ns))) (nodes_of e ts)
    (array_written (map (element_value e) ts) (each_written e ts are)))

pub list_level : (e : ElementKind) (ts : List (List ℕ)) → AreElements e ts → LevelExpression (written_list e ts).node
list_level e ts are = subst (λ ns. LevelExpression (array_of_values ns)) (nodes_of e ts) (array_level (map (element_value e) ts) (each_level e ts))

pub list_shallow : (e : ElementKind) (ts : List (List ℕ)) → AreElements e ts → expression_depth (written_list e ts).node ≤ 1
list_shallow e ts are = subst (λ ns. expression_depth (array_of_values ns) ≤ 1) (nodes_of e ts) (array_low 0 (map (element_value e) ts) (each_flat e ts))

abbrev list_new : (e : ElementKind) (ts : List (List ℕ)) → AreElements e ts → WrittenFor (written_list e ts).bytes
list_new e ts are = record { node = (written_list e ts).node; writes = list_written e ts are; level = list_level e ts are; shallow = list_shallow e ts are }

-- ---- a switch, and what is set

abbrev switch_new : (b : Bool) → WrittenFor (truth_text b)
switch_new b = record { node = (written_switch b).node; writes = truth_written b; level = tt; shallow = omega arith }

list_is : (e : ElementKind) (ts : List (List ℕ)) (bytes : List ℕ) → bytes ≡ (written_list e ts).bytes → AreElements e ts → IsSet (Ok (written_list e ts)) bytes
list_is e ts bytes is are = subst (IsSet (Ok (written_list e ts))) (sym is) (record { new = list_new e ts are; is = refl })

pub switch_is : (b : Bool) (bytes : List ℕ) → bytes ≡ truth_text b → IsSet (Ok (written_switch b)) bytes
switch_is b bytes is = subst (IsSet (Ok (written_switch b))) (sym is) (record { new = switch_new b; is = refl })

pub list_set : (e : ElementKind) (ts : List (List ℕ)) → AreElements e ts → (r : Result (List ℕ) Refusal) → IfOk r (λ b. b ≡ (written_list e ts).bytes) → IfOk r (IsSet (Ok (written_list e ts)))
list_set e ts are (Ok bytes) is = list_is e ts bytes is are
list_set e ts are (Err x) is = tt

-- ---- texts that passed the test

pub elements_are : (e : ElementKind) (ts : List (List ℕ)) → are_elements e ts ≡ true → All IsUtf8 ts → AreElements e ts
elements_are e [] known utf8 = tt
elements_are element.Text (t ∷ ts) known utf8 = (All-head IsUtf8 t ts utf8, elements_are element.Text ts refl (All-tail IsUtf8 t ts utf8))
elements_are element.Identifier (t ∷ ts) known utf8 =
    let both = and_parts (is_identifier t) (list_all is_identifier ts) known in
    ((identifier_true t both.0, All-head IsUtf8 t ts utf8), elements_are element.Identifier ts both.1 (All-tail IsUtf8 t ts utf8))

-- ---- each of them once

pub distinct_elements : (e : ElementKind) (seen ts : List (List ℕ)) → AreElements e ts → AreElements e (distinct_by seen ts)
distinct_elements e seen [] are = tt
distinct_elements e seen (t ∷ ts) are = go (one_of seen t) (distinct_elements e seen ts are.1) (distinct_elements e (t ∷ seen) ts are.1)
  where
    go : (b : Bool) → AreElements e (distinct_by seen ts) → AreElements e (distinct_by (t ∷ seen) ts) → AreElements e (if b then distinct_by seen ts else t ∷ distinct_by (t ∷ seen) ts)
    go true without more = without
    go false without more = (are.0, more)
