-- A literal or an identifier of a project is written as its token; and so is the array of it and of values that are given.
use Rattle.std.proofs.Common.{◌≡◌, ℕ, zero, suc, ◌≤◌, true, false, List, [], ◌∷◌, ◌++◌, append-nil, map, Option, Some, None, refl, sym, ap, ap₂, subst, arith}
use Rattle.std.specs.Prelude.{Bool, if◌then◌else◌, is_some, option_map}
use Rattle.std.specs.Str.{chars, encode_utf8_all, is_utf8}
use Rattle.std.proofs.lemmas.Str.{IsUtf8-from_is_utf8}
use Rattle.meson_lex.specs.declared.kinds.Kind.{Kind}
use Rattle.meson_lex.specs.declared.kinds.Kind.TheVariants as k
use Rattle.meson_lex.specs.declared.kinds.Span.{Span}
use Rattle.meson_lex.specs.Bytes.{first_bare_return}
use Rattle.meson_lex.specs.Items.{AreItems, Lexeme}
use Rattle.meson_lex.specs.Kinds.{IsIdentifier}
use Rattle.meson_lex.specs.Literals.{value, value_of_characters}
use Rattle.meson_lex.specs.Significant.{Word, kept, Role, Gap, Ends, Opens, Closes, Other, role, State, start, step, after, emit, emit_by, emitted, only_if, ends_line, closing, new_line}
use Rattle.meson_splice.specs.declared.file_set.File as files
use Rattle.meson_syntax.specs.declared.operator.StringKind.{StringKind}
use Rattle.meson_syntax.specs.declared.operator.StringKind.TheVariants as quotes
use Rattle.meson_syntax.specs.declared.tree.Parsed.{Parsed}
use Rattle.meson_syntax.specs.Grammar.{LevelExpression, expression_depth, expression_words, file_words}
use Rattle.meson_syntax.specs.Operators.{string_kind}
use Rattle.meson_syntax.specs.Paths.{Sort, of_expression, of_statement, of_block, Node, node_words, expression_of, reach, block_of}
use Rattle.meson_syntax.specs.Paths as paths
use Rattle.meson_syntax.specs.Reads.{IsSpanned, Spells}
use Rattle.meson_syntax.specs.Tree.{Expression, Nowhere, Plain, identifier, string, erase, erase_expression}
use Rattle.meson_syntax.specs.Tree as tree
use Rattle.meson_syntax.proofs.parsing.FileErased.{file-words-erased}
use Rattle.meson_syntax.proofs.parsing.Steps.{some-injective}
use Rattle.meson_syntax.proofs.paths.Reaching.{and-then-some, reach-fits}
use Rattle.meson_edit.specs.Edits.{Written}
use Rattle.meson_edit.specs.Places.{IsWritten}
use Rattle.meson_calls.specs.declared.call.CallRef.{CallRef}
use Rattle.meson_calls.specs.Loading.{AreParsed, Loaded, named_trees, project, views}
use Rattle.meson_calls.specs.Project.{BuildFile, expression_at, nth_file}
use Rattle.meson_calls.specs.Strings.{AreGood, IsGood}
use Rattle.meson_calls.proofs.GoodTexts.{text_good}
use Rattle.meson_calls.proofs.IdentifierTexts.{identifier_utf8}
use Rattle.meson_steps.specs.Code.{IsExpression, IsValue}
use Rattle.meson_steps.specs.WrittenTexts.{array_of_values, comma_between}
use Rattle.meson_steps.specs.declared.given.Given.{Given}
use Rattle.meson_steps.specs.declared.given.Given.TheVariants as given
use Rattle.meson_places.specs.Equality.{is_old}
use Rattle.meson_places.specs.NewElements.{array_with, fresh_written, lone_token}
use Rattle.meson_places.specs.Several.{AllMayBeGiven, all_written, written_array}
use Rattle.meson_places.specs.inside.Found.{IsArrayValue}
use Rattle.meson_places.specs.Values.{given_bytes, written_given}
use Rattle.meson_places.proofs.ArrayWritten.{array_value}
use Rattle.meson_places.proofs.Standing.{block_good, expression_good}

-- ---- texts of tokens have no CR without LF after it

abbrev AreWhole : List Word → Type 0
AreWhole [] = Unit {0}
AreWhole (w ∷ words) = (first_bare_return w.1 ≡ None) × AreWhole words

both : (xs ys : List Word) → AreWhole xs → AreWhole ys → AreWhole (xs ++ ys)
both [] ys a b = b
both (x ∷ xs) ys a b = (a.0, both xs ys a.1 b)

left_of : (xs ys : List Word) → AreWhole (xs ++ ys) → AreWhole xs
left_of [] ys a = tt
left_of (x ∷ xs) ys a = (a.0, left_of xs ys a.1)

right_of : (xs ys : List Word) → AreWhole (xs ++ ys) → AreWhole ys
right_of [] ys a = a
right_of (x ∷ xs) ys a = right_of xs ys a.1

whole_word : (κ : Kind) (text : List ℕ) → first_bare_return text ≡ None → first_bare_return (kept κ text) ≡ None
whole_word k.Identifier text is = is
whole_word k.Integer text is = is
whole_word k.PlainString text is = is
whole_word k.MultilineString text is = is
whole_word k.FormatString text is = is
whole_word k.FormatMultilineString text is = is
whole_word _ text is = refl

line_whole : (b : Bool) → AreWhole (only_if b new_line)
line_whole true = (refl, tt)
line_whole false = tt

emit_whole : (r : Role) (s : State) (w : Word) → first_bare_return w.1 ≡ None → AreWhole (emit_by r s w)
emit_whole Gap s w is = tt
emit_whole Ends s w is = line_whole (ends_line s.depth s.fresh)
emit_whole Opens s w is = (is, tt)
emit_whole Closes s w is = (is, tt)
emit_whole Other s w is = (is, tt)

emitted_whole : (s : State) (xs : List Lexeme) → AreItems xs [] → AreWhole (emitted s xs)
emitted_whole s [] items = tt
emitted_whole s (x ∷ xs) items =
    both (emit s x) (emitted (step s x) xs) (emit_whole (role x.kind) s (x.kind, kept x.kind x.text) (whole_word x.kind x.text items.0.1)) (emitted_whole (step s x) xs items.1)

closing_whole : (b : Bool) → AreWhole (closing b)
closing_whole true = tt
closing_whole false = (refl, tt)

text_whole : (bytes : List ℕ) (t : Plain) → Spells bytes t → AreWhole (file_words t)
text_whole bytes t s =
    subst AreWhole s.words (both (emitted start s.items) (closing (after start s.items).fresh) (emitted_whole start s.items s.are_items.each) (closing_whole (after start s.items).fresh))

-- ---- an expression of a file

node_whole : (sort : Sort) (x : Node sort Span) (e : Expression Span) → AreWhole (node_words Span sort x) → expression_of Span sort x ≡ Some e → AreWhole (expression_words e)
node_whole of_expression x e whole is = let same : x ≡ e = cc in subst (λ y. AreWhole (expression_words y)) same whole
node_whole of_statement x e whole is = absurd (let no : ⊥ = cc in no)
node_whole of_block x e whole is = absurd (let no : ⊥ = cc in no)

expression_whole : (f : tree.File Span) (path : List ℕ) (e : Expression Span) → paths.expression_on_path f path ≡ Some e → AreWhole (node_words Span of_block (block_of f)) → AreWhole (expression_words e)
expression_whole f path e is whole =
    let o = and-then-some (λ h. expression_of Span h.sort h.inside) (reach Span of_block (block_of f) path) e is in
    let h = o.0 in
    let fits = reach-fits Span of_block (block_of f) path h o.1 in
    let all = subst AreWhole (fits.put h.inside) (subst (λ b. AreWhole (node_words Span of_block b)) (sym fits.same) whole) in
    node_whole h.sort h.inside e (left_of (node_words Span h.sort h.inside) h.behind (right_of h.before (node_words Span h.sort h.inside ++ h.behind) all)) o.2

block_whole : (f : tree.File Span) → AreWhole (file_words f) → AreWhole (node_words Span of_block (block_of f))
block_whole (tree.file s b) whole = whole

record Spanned (f : tree.File Span) : Type 0 where
  bytes : List ℕ
  is : IsSpanned bytes f

spanned_file : (fs : List files.File) (parsed : List Parsed) → AreParsed fs parsed → (i : ℕ) (g : BuildFile Span) → nth_file (named_trees fs (views fs parsed)) i ≡ Some g → Spanned g.tree
spanned_file [] [] are i g is = absurd (let no : ⊥ = cc in no)
spanned_file [] (t ∷ parsed) are i g is = absurd are
spanned_file (f ∷ fs) [] are i g is = absurd are
spanned_file (f ∷ fs) (t ∷ parsed) are zero g is = subst (λ (h : BuildFile Span). Spanned h.tree) (some-injective _ g is) (record { bytes = f.bytes; is = are.0 })
spanned_file (f ∷ fs) (t ∷ parsed) are (suc i) g is = spanned_file fs parsed are.1 i g is

-- ---- the token of a lone value

abbrev item : Kind → List ℕ → Lexeme
item κ x = record { kind = κ; text = x }

pub identifier_written : (s : Span) (x : List ℕ) → IsIdentifier x → first_bare_return x ≡ None → IsWritten x (expression_words (erase_expression (identifier s x)))
identifier_written s x good whole = record {
  items = item k.Identifier x ∷ [];
  is_new = record {
    are_items = record { joins = append-nil x; each = ((good, whole, (refl, λ f. refl)), tt) };
    tight = record { first = item k.Identifier x; more = []; begins = refl; first_speaks = refl; front = []; last = item k.Identifier x; ends = refl; last_speaks = refl };
    no_remarks = refl;
  };
  is_words = refl;
  utf8 = identifier_utf8 x good;
}

string_written : (s : Span) (q : StringKind) (x : List ℕ) → IsGood (string_kind q) x → first_bare_return x ≡ None → is_utf8 x ≡ true → is_some (value_of_characters (string_kind q) (chars x)) ≡ true
    → IsWritten x (expression_words (erase_expression (string s q x)))
string_written s quotes.Plain x good whole utf8 some = record {
  items = item k.PlainString x ∷ [];
  is_new = record {
    are_items = record { joins = append-nil x; each = ((good, whole, λ empty. refl), tt) };
    tight = record { first = item k.PlainString x; more = []; begins = refl; first_speaks = refl; front = []; last = item k.PlainString x; ends = refl; last_speaks = refl };
    no_remarks = refl;
  };
  is_words = refl;
  utf8 = IsUtf8-from_is_utf8 x utf8;
}
string_written s quotes.Multiline x good whole utf8 some = record {
  items = item k.MultilineString x ∷ [];
  is_new = record {
    are_items = record { joins = append-nil x; each = ((good, whole, tt), tt) };
    tight = record { first = item k.MultilineString x; more = []; begins = refl; first_speaks = refl; front = []; last = item k.MultilineString x; ends = refl; last_speaks = refl };
    no_remarks = refl;
  };
  is_words = refl;
  utf8 = IsUtf8-from_is_utf8 x utf8;
}
string_written s quotes.Format x good whole utf8 some = absurd (let no : ⊥ = cc in no)
string_written s quotes.FormatMultiline x good whole utf8 some = absurd (let no : ⊥ = cc in no)

-- what a literal's value says of its token
value_some : (κ : Kind) (x : List ℕ) → is_some (value κ x) ≡ true → (is_utf8 x ≡ true) × (is_some (value_of_characters κ (chars x)) ≡ true)
value_some κ x is = go (is_utf8 x) refl (value_of_characters κ (chars x)) refl is
  where
    go : (b : Bool) → is_utf8 x ≡ b → (o : Option (List ℕ)) → value_of_characters κ (chars x) ≡ o → is_some (if b then option_map encode_utf8_all o else None) ≡ true → (is_utf8 x ≡ true) × (is_some (value_of_characters κ (chars x)) ≡ true)
    go true utf8 (Some cs) there h = (utf8, ap is_some there)
    go true utf8 None there h = absurd (let no : ⊥ = cc in no)
    go false utf8 o there h = absurd (let no : ⊥ = cc in no)

token_written : (e : Expression Span) (x : List ℕ) → AreGood (expression_words e) → AreWhole (expression_words e) → lone_token e ≡ Some x → IsWritten x (expression_words (erase_expression e))
token_written (identifier s y) x good whole is =
    let same : y ≡ x = some-injective y x is in
    subst (λ z. IsWritten z (expression_words (erase_expression (identifier s y)))) same (identifier_written s y good.0 whole.0)
token_written (string s q y) x good whole is = go (is_some (value (string_kind q) y)) refl is
  where
    go : (b : Bool) → is_some (value (string_kind q) y) ≡ b → (if b then Some y else None) ≡ Some x → IsWritten x (expression_words (erase_expression (string s q y)))
    go true some h =
        let same : y ≡ x = some-injective y x h in
        let v = value_some (string_kind q) y some in
        subst (λ z. IsWritten z (expression_words (erase_expression (string s q y)))) same (string_written s q y good.0 whole.0 v.0 v.1)
    go false some h = absurd (let no : ⊥ = cc in no)
token_written _ x good whole is = absurd (let no : ⊥ = cc in no)

pub lone_stands : (old : Loaded) → AreParsed old.files old.parsed → (c : CallRef) (e : Expression Span) → expression_at (project old) c ≡ Some e → (x : List ℕ) → lone_token e ≡ Some x → IsWritten x (expression_words (erase_expression e))
lone_stands old are c e at_ x token =
    let o = and-then-some (λ (g : BuildFile Span). paths.expression_on_path g.tree c.path.steps) (nth_file (project old) c.file) e at_ in
    let f = o.0.tree in
    let s = spanned_file old.files old.parsed are c.file o.0 o.1 in
    let spells = s.is.reads.spells in
    let good = expression_good f c.path.steps e o.2 (block_good f (subst AreGood (file-words-erased f) (text_good s.bytes (erase f) spells))) in
    let whole = expression_whole f c.path.steps e o.2 (block_whole f (subst AreWhole (file-words-erased f) (text_whole s.bytes (erase f) spells))) in
    token_written e x good whole token

-- ---- the array of it and others

pub lone_low : (e : Expression Span) (x : List ℕ) → lone_token e ≡ Some x → LevelExpression (erase_expression e) × (expression_depth (erase_expression e) ≤ 64)
lone_low (identifier s y) x is = (tt, omega arith)
lone_low (string s q y) x is = (tt, omega arith)
lone_low _ x is = absurd (let no : ⊥ = cc in no)

record FreshGiven (ws : List (Written (Expression Nowhere))) : Type 0 where
  values : List Given
  may : AllMayBeGiven values
  are : all_written values may ≡ ws
  bytes : map given_bytes values ≡ map (λ w. w.bytes) ws

fresh_given : (known : Given → Bool) (before gs : List Given) (mays : AllMayBeGiven gs) → FreshGiven (fresh_written known before gs mays)
fresh_given known before [] mays = record { values = []; may = tt; are = refl; bytes = refl }
fresh_given known before (g ∷ gs) mays = go (is_old known before g) (fresh_given known (before ++ g ∷ []) gs mays.1)
  where
    rest : List (Written (Expression Nowhere))
    rest = fresh_written known (before ++ g ∷ []) gs mays.1

    go : (b : Bool) → FreshGiven rest → FreshGiven (if b then rest else written_given g mays.0 ∷ rest)
    go true f = f
    go false f = record { values = g ∷ f.values; may = (mays.0, f.may); are = ap (λ ws. written_given g mays.0 ∷ ws) f.are; bytes = ap (λ bs. given_bytes g ∷ bs) f.bytes }

-- the array as one of values that are given
pub record AsGiven (old : Written (Expression Nowhere)) (ws : List (Written (Expression Nowhere))) : Type 0 where
  pub values : List Given
  pub may : AllMayBeGiven values
  pub is : written_array values may ≡ array_with old ws

pub lone_given : (known : Given → Bool) (e : Expression Span) (x : List ℕ) → lone_token e ≡ Some x → IsWritten x (expression_words (erase_expression e)) → (gs : List Given) (mays : AllMayBeGiven gs)
    → AsGiven (record { bytes = x; node = erase_expression e }) (fresh_written known [] gs mays)
lone_given known e x token writes gs mays =
    let low = lone_low e x token in
    let f = fresh_given known [] gs mays in
    let own : IsExpression x = record { node = erase_expression e; writes = writes; level = low.0; shallow = low.1 } in
    record {
      values = given.Code x ∷ f.values;
      may = (own, f.may);
      is = ap₂ (λ bs ns. record { bytes = 91 ∷ (comma_between (x ∷ bs) ++ 93 ∷ []); node = array_of_values (erase_expression e ∷ ns) }) f.bytes (ap (map (λ w. w.node)) f.are);
    }

pub lone_array : (known : Given → Bool) (e : Expression Span) (x : List ℕ) → lone_token e ≡ Some x → IsWritten x (expression_words (erase_expression e)) → (gs : List Given) (mays : AllMayBeGiven gs)
    → let new = array_with (record { bytes = x; node = erase_expression e }) (fresh_written known [] gs mays) in
    IsWritten new.bytes (expression_words new.node) × LevelExpression new.node
lone_array known e x token writes gs mays =
    let a = lone_given known e x token writes gs mays in
    let v = array_value a.values a.may in
    subst (λ (w : Written (Expression Nowhere)). IsWritten w.bytes (expression_words w.node) × LevelExpression w.node) a.is (v.writes, v.level)

pub lone_value : (known : Given → Bool) (e : Expression Span) (x : List ℕ) → lone_token e ≡ Some x → IsWritten x (expression_words (erase_expression e)) → (gs : List Given) (mays : AllMayBeGiven gs)
    → IsArrayValue (record { bytes = x; node = erase_expression e }) (fresh_written known [] gs mays)
lone_value known e x token writes gs mays =
    let a = lone_given known e x token writes gs mays in
    let v = subst (λ (w : Written (Expression Nowhere)). (y : IsValue w.bytes) × (y.node ≡ w.node)) a.is (array_value a.values a.may, refl) in
    record { value = v.0; is_node = v.1 }

-- as the code has it
pub value_text : (old : Written (Expression Nowhere)) (ws : List (Written (Expression Nowhere))) → IsArrayValue old ws → (text : List ℕ) → text ≡ (array_with old ws).bytes → (x : IsValue text) × (x.node ≡ (array_with old ws).node)
value_text old ws v text is = subst (λ t. (x : IsValue t) × (x.node ≡ (array_with old ws).node)) (sym is) (v.value, v.is_node)
