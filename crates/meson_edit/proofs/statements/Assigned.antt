-- Another assigned value: the new text spells the tree with it, and all bytes around the value stay.
use Rattle.meson_edit.proofs.Words.{option_map, option_and_then, ◌≡◌, ℕ, List, [], ◌∷◌, ◌++◌, length, Option, Some, None, Ok, refl, sym, ap, ap₂, subst, ◌∙◌, append_assoc, inl, inr}
use Rattle.meson_edit.proofs.Words.{false, Lexeme, joined, IsItemList, located, Word, new_line, State, start, after, emitted, Span, one_list, mark, patched_by}
use Rattle.meson_edit.proofs.Words.{layout_of, Primitive, IsSpanOf, expression_words, file_words, assignment_kind, Assignment, Sort, of_expression}
use Rattle.meson_edit.proofs.Words.{of_statement, of_block, Node, Hole, reach, block_of, with_block, IsSpannedWithin, Nowhere, Plain, Name, Expression, Statement, evaluate}
use Rattle.meson_edit.proofs.Words.{assign, selection, iteration, breaks, continues, Block, File, erase, erase_name, erase_statement, Limits, some-injective, map-some}
use Rattle.meson_edit.proofs.Words.{and-then-some, reach-fits, with-words, expression-flat, after-append, joined-append, Written, Assign, edited, EditKeeps, in_line, Writes}
use Rattle.meson_edit.proofs.Words.{primitive_of, expression_span, StandsAmongItems, WordsAround, words_around, erase_front, assigned_at, assigned_in, assigned_of_node}
use Rattle.meson_edit.proofs.Words.{assigned_within, assigned_span, AssignmentsSpell, AssignedAt, IsStatementText}
use Rattle.meson_lex.specs.declared.kinds.Kind.TheVariants as k
use Rattle.meson_syntax.specs.declared.operator.Assignment.TheVariants as assigns
use Rattle.meson_layout.specs.declared.primitive.Primitive.TheVariants as layout
use Rattle.meson_layout.specs.FileLaws.{IsAssignment, ValueIn, EditedFile}
use Rattle.meson_layout.proofs.AssignmentLaws.{assignment-law}
use Rattle.meson_edit.proofs.paths.Erased.{nodes-erase}
use Rattle.meson_edit.proofs.places.Inside.{inside-part}
use Rattle.meson_edit.proofs.places.InStatements.{reach-inside, statement-inside}
use Rattle.meson_edit.proofs.places.Standing.{block-spelled, node-stands}
use Rattle.meson_edit.proofs.exchange.LinedHoles.{reach-lined}
use Rattle.meson_edit.proofs.exchange.LineWords.{tight-after}
use Rattle.meson_edit.proofs.exchange.StatementLines.{assignment-other}
use Rattle.meson_edit.proofs.exchange.Standing.{statement-end}
use Rattle.meson_edit.proofs.exchange.States.{after_words, after-words-append, state-is, lines-state}
use Rattle.meson_edit.proofs.Coding.{coding-law, texts-law}
use Rattle.meson_edit.proofs.statements.FirstWords.{begins-no-equals}
use Rattle.meson_edit.proofs.statements.Trailed.{reach-trailed}

-- ---- the assignment in the tree with spans

abbrev hole_of : {S : Type 0} → Statement S → (before behind : List Word) → (Statement S → Block S) → Hole S (Block S)
hole_of s before behind back = record { sort = of_statement; inside = s; before = before; behind = behind; back = back }

-- The assignment that a path names.
pub record Named (S : Type 0) (f : File S) (path : List ℕ) (p : AssignedAt S) : Type 0 where
  pub span : S
  pub name : Name S
  pub sign : Assignment
  pub value : Expression S
  pub before : List Word
  pub behind : List Word
  pub back : Statement S → Block S
  pub is_hole : reach S of_block (block_of f) path ≡ Some (hole_of (assign span name sign value) before behind back)
  pub is_place : record { value = value; back = λ v. with_block f (back (assign span name sign v)) } ≡ p

in-statement : (S : Type 0) (f : File S) (path : List ℕ) (p : AssignedAt S) (s : Statement S) (before behind : List Word) (back : Statement S → Block S)
    → reach S of_block (block_of f) path ≡ Some (hole_of s before behind back) → option_map (assigned_within f back) (assigned_in s) ≡ Some p → Named S f path p
in-statement S f path p (assign s x a e) before behind back h is =
    record { span = s; name = x; sign = a; value = e; before = before; behind = behind; back = back; is_hole = h; is_place = some-injective _ _ is }
in-statement S f path p (evaluate e) before behind back h is = absurd cc
in-statement S f path p (selection s bs o) before behind back h is = absurd cc
in-statement S f path p (iteration s xs e b) before behind back h is = absurd cc
in-statement S f path p (breaks s) before behind back h is = absurd cc
in-statement S f path p (continues s) before behind back h is = absurd cc

in-node : (S : Type 0) (f : File S) (path : List ℕ) (p : AssignedAt S) (sort : Sort) (x : Node sort S) (before behind : List Word) (back : Node sort S → Block S)
    → reach S of_block (block_of f) path ≡ Some (record { sort = sort; inside = x; before = before; behind = behind; back = back })
    → assigned_of_node S sort x f back ≡ Some p → Named S f path p
in-node S f path p of_expression x before behind back h is = absurd cc
in-node S f path p of_statement x before behind back h is = in-statement S f path p x before behind back h is
in-node S f path p of_block x before behind back h is = absurd cc

pub named-at : (S : Type 0) (f : File S) (path : List ℕ) (p : AssignedAt S) → assigned_at f path ≡ Some p → Named S f path p
named-at S f path p is =
    let o = and-then-some (λ h. assigned_of_node S h.sort h.inside f h.back) (reach S of_block (block_of f) path) p is in
    in-node S f path p o.0.sort o.0.inside o.0.before o.0.behind o.0.back o.1 o.2

-- the same in the tree without spans
pub record Assigning (f : File Span) (path : List ℕ) (new : Expression Nowhere) (t : Plain) : Type 0 where
  pub span : Span
  pub name : Name Span
  pub sign : Assignment
  pub value : Expression Span
  pub before : List Word
  pub behind : List Word
  pub back : Statement Span → Block Span
  pub is_hole : reach Span of_block (block_of f) path ≡ Some (hole_of (assign span name sign value) before behind back)
  pub words : file_words t ≡ before ++ (((k.Identifier, name.text) ∷ (mark (assignment_kind sign) ++ expression_words new)) ++ behind)

plain-words : (t : Plain) (f : Plain) (path : List ℕ) (new : Expression Nowhere) (p : AssignedAt Nowhere) (g : Named Nowhere f path p) → p.back new ≡ t
    → file_words t ≡ g.before ++ (((k.Identifier, g.name.text) ∷ (mark (assignment_kind g.sign) ++ expression_words new)) ++ g.behind)
plain-words t f path new p g is =
    let r = reach-fits Nowhere of_block (block_of f) path _ g.is_hole in
    ap file_words (sym is ∙ ap (λ (q : AssignedAt Nowhere). q.back new) (sym g.is_place)) ∙ with-words Nowhere f (g.back (assign g.span g.name g.sign new))
    ∙ r.put (assign g.span g.name g.sign new)

with-spans : (f : File Span) (path : List ℕ) (new : Expression Nowhere) (t : Plain) (p : AssignedAt Nowhere) (g : Named Nowhere (erase f) path p) → p.back new ≡ t
    → (s : Statement Span) (before behind : List Word) (back : Statement Span → Block Span) → reach Span of_block (block_of f) path ≡ Some (hole_of s before behind back)
    → assign g.span g.name g.sign g.value ≡ erase_statement s → g.before ≡ before → g.behind ≡ behind → Assigning f path new t
with-spans f path new t p g is (assign s x a e) before behind back h same b c =
    let name : g.name ≡ erase_name x = cc in
    let sign : g.sign ≡ a = cc in
    record {
      span = s;
      name = x;
      sign = a;
      value = e;
      before = before;
      behind = behind;
      back = back;
      is_hole = h;
      words = plain-words t (erase f) path new p g is
          ∙ ap₂ (λ (y : Name Nowhere) b. g.before ++ (((k.Identifier, y.text) ∷ (mark (assignment_kind b) ++ expression_words new)) ++ g.behind)) name sign
          ∙ ap₂ (λ u v. u ++ (((k.Identifier, x.text) ∷ (mark (assignment_kind a) ++ expression_words new)) ++ v)) b c;
    }
with-spans f path new t p g is (evaluate e) before behind back h same b c = absurd cc
with-spans f path new t p g is (selection s bs o) before behind back h same b c = absurd cc
with-spans f path new t p g is (iteration s xs e d) before behind back h same b c = absurd cc
with-spans f path new t p g is (breaks s) before behind back h same b c = absurd cc
with-spans f path new t p g is (continues s) before behind back h same b c = absurd cc

-- the statement of what a path names
statement_of : (sort : Sort) → Node sort Nowhere → Option (Statement Nowhere)
statement_of of_expression e = None
statement_of of_statement s = Some s
statement_of of_block b = None

no-some : {A : Type 0} (x : A) → Some x ≡ None → ⊥
no-some x e = absurd cc

by-sort : (f : File Span) (path : List ℕ) (new : Expression Nowhere) (t : Plain) (p : AssignedAt Nowhere) (g : Named Nowhere (erase f) path p) → p.back new ≡ t
    → (sort : Sort) (x : Node sort Span) (before behind : List Word) (back : Node sort Span → Block Span)
    → reach Span of_block (block_of f) path ≡ Some (record { sort = sort; inside = x; before = before; behind = behind; back = back })
    → words_around (hole_of (assign g.span g.name g.sign g.value) g.before g.behind g.back)
    ≡ erase_front (words_around {T = Block Span} (record { sort = sort; inside = x; before = before; behind = behind; back = back })) → Assigning f path new t
unfolding statement_of
by-sort f path new t p g is of_expression x before behind back h same = absurd (no-some _ (ap (λ (w : WordsAround Nowhere). statement_of w.sort w.inside) same))
by-sort f path new t p g is of_statement x before behind back h same =
    with-spans f path new t p g is x before behind back h (some-injective _ _ (ap (λ (w : WordsAround Nowhere). statement_of w.sort w.inside) same))
    (ap (λ (w : WordsAround Nowhere). w.before) same) (ap (λ (w : WordsAround Nowhere). w.behind) same)
by-sort f path new t p g is of_block x before behind back h same = absurd (no-some _ (ap (λ (w : WordsAround Nowhere). statement_of w.sort w.inside) same))

assigning : (f : File Span) (path : List ℕ) (new : Expression Nowhere) (t : Plain) → option_map (λ p. p.back new) (assigned_at (erase f) path) ≡ Some t → Assigning f path new t
assigning f path new t is =
    let m = map-some (λ (p : AssignedAt Nowhere). p.back new) (assigned_at (erase f) path) t is in
    let g = named-at Nowhere (erase f) path m.0 m.1 in
    let shown = sym (nodes-erase f path) ∙ ap (option_map words_around) g.is_hole in
    let h = map-some (λ (h : Hole Span (Block Span)). erase_front (words_around h)) (reach Span of_block (block_of f) path) _ shown in
    by-sort f path new t m.0 g m.2 h.0.sort h.0.inside h.0.before h.0.behind h.0.back h.1 (sym h.2)

-- ---- its value among the items

sign-assigns : (a : Assignment) → IsAssignment (assignment_kind a)
sign-assigns assigns.Set = inl refl
sign-assigns assigns.Add = inr refl

words-group : {A : Type 0} (a : List A) (x y : A) (b c : List A) → a ++ ((x ∷ (y ∷ b)) ++ c) ≡ (a ++ x ∷ (y ∷ [])) ++ (b ++ c)
words-group a x y b c = simp append_assoc

module _ (limits : Limits) (bytes : List ℕ) (f : File Span) (s : IsSpannedWithin limits bytes f) (path : List ℕ) (new : Expression Nowhere) (t : Plain) (g : Assigning f path new t) where
  abbrev items : List Lexeme
  items = s.reads.spells.items

  abbrev ahead : List Word
  ahead = g.before ++ (k.Identifier, g.name.text) ∷ ((assignment_kind g.sign, []) ∷ [])

  stands : StandsAmongItems items (expression_span g.value) ahead (expression_words g.value) g.behind
  stands =
      let ts = located items in
      let u = reach-inside of_block (block_of f) path limits.depth 0 ts _ g.is_hole (block-spelled f (length bytes) limits.depth ts s.stands) in
      let v = (statement-inside (assign g.span g.name g.sign g.value) u.depth u.own u.spelled).0.inside in
      node-stands items of_expression g.value ahead g.behind
      (inside-part of_expression g.value ((k.Identifier, g.name.text) ∷ mark (assignment_kind g.sign)) [] g.before g.behind ts u.front u.own u.back u.parts u.is_front u.is_back v)

  behind-token : (q : State) → q.depth ≡ 0 → after_words q ((k.Identifier, g.name.text) ∷ ((assignment_kind g.sign, []) ∷ [])) ≡ in_line
  behind-token q zero = rw (assignment-other g.sign) (ap (λ (d : ℕ). record { depth = d; fresh = false }) zero)

  left-state : after start stands.left ≡ in_line
  left-state =
      let words : List Word = (k.Identifier, g.name.text) ∷ ((assignment_kind g.sign, []) ∷ []) in
      state-is start stands.left ∙ ap (after_words start) stands.is_left ∙ after-words-append start g.before words
      ∙ ap (λ q. after_words q words) (lines-state g.before (reach-lined Span (block_of f) path _ g.is_hole)) ∙ behind-token start refl

  both-state : after start (stands.left ++ stands.own) ≡ in_line
  both-state =
      after-append start stands.left stands.own ∙ ap (λ q. after q stands.own) left-state
      ∙ tight-after in_line stands.own (expression_words g.value) refl stands.tight (ap (λ q. emitted q stands.own) (sym left-state) ∙ stands.is_own) (expression-flat Span g.value)

  abbrev behind : (more : List Word) × (g.behind ≡ new_line ∷ more)
  behind = reach-trailed Span (block_of f) path _ g.is_hole refl

  value-in : ValueIn items (expression_span g.value) behind.0
  value-in = record {
    left = stands.left;
    own = stands.own;
    right = stands.right;
    parts = stands.parts;
    from = stands.from;
    to = stands.to;
    tight = stands.tight;
    ahead = g.before ++ (k.Identifier, g.name.text) ∷ [];
    operator = assignment_kind g.sign;
    assigns = sign-assigns g.sign;
    is_left = stands.is_left ∙ sym (append_assoc g.before ((k.Identifier, g.name.text) ∷ []) ((assignment_kind g.sign, []) ∷ []));
    begins = left-state;
    ends = both-state;
    is_right = stands.is_right ∙ behind.1;
  }

  span-of : IsSpanOf items (expression_span g.value)
  span-of = record {
    left = stands.left;
    first = stands.tight.first;
    more = stands.tight.more;
    right = stands.right;
    joins = stands.parts ∙ ap (λ own. stands.left ++ (own ++ stands.right)) stands.tight.begins;
    from = stands.from;
    to = stands.to ∙ ap (λ own. length (joined (stands.left ++ own))) stands.tight.begins;
  }

  -- where it is laid out
  span-is : assigned_span f path ≡ Some (expression_span g.value)
  span-is = ap (λ o. option_map (λ (p : AssignedAt Span). expression_span p.value) (option_and_then (λ h. assigned_of_node Span h.sort h.inside f h.back) o)) g.is_hole

  module _ (name : List ℕ) (text : List ℕ) (w : IsStatementText text (expression_words new)) where
    laid : EditedFile bytes (layout_of name items (layout.Replace (expression_span g.value) text)) (joined stands.left ++ (text ++ joined stands.right))
        (emitted start stands.left ++ (expression_words new ++ new_line ∷ behind.0))
    unfolding stands value-in
    laid =
        assignment-law name bytes items s.reads.spells.are_items (expression_span g.value) behind.0 value-in text w.items (expression_words new)
        (record { are_items = w.are_items; tight = w.tight; says = w.is_words; ends = statement-end (evaluate new) text w })
        (begins-no-equals new text w.items w.are_items.joins w.are_items.each w.tight w.is_words)

    told : emitted start stands.left ++ (expression_words new ++ new_line ∷ behind.0) ≡ file_words t
    told =
        ap₂ (λ u v. u ++ (expression_words new ++ v)) stands.is_left (sym behind.1)
        ∙ sym (words-group g.before (k.Identifier, g.name.text) (assignment_kind g.sign, []) (expression_words new) g.behind) ∙ sym g.words

pub assignments-spell : AssignmentsSpell
assignments-spell path new limits bytes f s items are name writes t is level =
    let g = assigning f path new.node t is in
    let own = s.reads.spells.items in
    let same = one_list bytes own items s.reads.spells.are_items are in
    let sp = expression_span g.value in
    let st = stands limits bytes f s path new.node t g in
    let e = laid limits bytes f s path new.node t g name new.bytes writes.text in
    let text : List ℕ = joined st.left ++ (new.bytes ++ joined st.right) in
    let patches : patched_by bytes (layout_of name items (layout.Replace sp new.bytes)) ≡ Ok text = ap (λ xs. patched_by bytes (layout_of name xs (layout.Replace sp new.bytes))) (sym same) ∙ e.patches in
    record {
      primitive = layout.Replace sp new.bytes;
      is_primitive = ap (option_map (λ s. layout.Replace s new.bytes)) (span-is limits bytes f s path new.node t g);
      placed = subst (λ xs. IsSpanOf xs sp) same (span-of limits bytes f s path new.node t g);
      text = text;
      patches = patches;
      utf8 = coding-law name bytes items are s.reads.source.utf8 (layout.Replace sp new.bytes) writes.utf8 text patches;
      texts = texts-law name bytes items are s.reads.source.utf8 (layout.Replace sp new.bytes) writes.utf8;
      spells = record {
        items = e.items;
        are_items = e.are_items;
        words = e.says ∙ told limits bytes f s path new.node t g name new.bytes writes.text;
        level = level;
      };
    }

pub assignments-keep : (path : List ℕ) (new : Written (Expression Nowhere)) (limits : Limits) (bytes : List ℕ) (f : File Span) → IsSpannedWithin limits bytes f → (items : List Lexeme) → IsItemList bytes items
    → (name : List ℕ) → Writes (Assign path new) → (t : Plain) → edited (Assign path new) (erase f) ≡ Some t → (primitive : Primitive) → primitive_of f (Assign path new) ≡ Some primitive
    → (text : List ℕ) → patched_by bytes (layout_of name items primitive) ≡ Ok text → EditKeeps bytes text f items (Assign path new)
assignments-keep path new limits bytes f s items are name writes t is primitive is_primitive text patches =
    let g = assigning f path new.node t is in
    let own = s.reads.spells.items in
    let same = one_list bytes own items s.reads.spells.are_items are in
    let sp = expression_span g.value in
    let st = stands limits bytes f s path new.node t g in
    let e = laid limits bytes f s path new.node t g name new.bytes writes.text in
    let place = span-is limits bytes f s path new.node t g in
    let lays : primitive ≡ layout.Replace sp new.bytes = some-injective _ _ (sym is_primitive ∙ ap (option_map (λ s. layout.Replace s new.bytes)) place) in
    let made : text ≡ joined st.left ++ (new.bytes ++ joined st.right) =
    (let both = sym patches ∙ ap₂ (λ q xs. patched_by bytes (layout_of name xs q)) lays (sym same) ∙ e.patches in cc) in
    record {
      span = sp;
      is_span = place;
      front = joined st.left;
      was = joined st.own;
      back = joined st.right;
      old = sym s.reads.spells.are_items.joins ∙ ap joined st.parts ∙ joined-append st.left (st.own ++ st.right) ∙ ap (λ x. joined st.left ++ x) (joined-append st.own st.right);
      from = sym st.from;
      to = ap length (sym (joined-append st.left st.own)) ∙ sym st.to;
      now = made;
    }
