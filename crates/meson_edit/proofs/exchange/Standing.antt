-- Where lines begin and end among the items of a text, and what its statements' texts are.
use Rattle.meson_edit.proofs.Words.{◌≡◌, ℕ, ◌≤◌, List, [], ◌∷◌, ◌++◌, length, Some, refl, sym, ap, ap₂, subst, ◌∙◌, IsUtf8}
use Rattle.meson_edit.proofs.Words.{Lexeme, joined, IsItemList, Word, kept, Role, Gap, Ends, Opens, Closes, Other, role, State, step}
use Rattle.meson_edit.proofs.Words.{emit_by, start, after, emitted, spoken_by, spoken, IsTight, Kind, Span, one_list, AreItems-split, statement_words}
use Rattle.meson_edit.proofs.Words.{file_words, file_depth, Fits, Spells, ReadsWithin, IsSpannedWithin, Nowhere, Plain, Statement, File, Limits, BlockAt}
use Rattle.meson_edit.proofs.Words.{block_at, statement_in, block_without, IsStatementText, in_line, LineStands, HasNoLineEnd, statement_span}
use Rattle.meson_lex.specs.declared.kinds.Kind.TheVariants as k
use Rattle.meson_edit.proofs.exchange.States.{Lines, lines-append}
use Rattle.meson_edit.proofs.exchange.StatementLines.{statement-flat, file-lines}
use Rattle.meson_edit.proofs.exchange.Cuts.{utf8-cut}
use Rattle.meson_edit.proofs.exchange.LineWords.{tight-state}
use Rattle.meson_edit.proofs.exchange.Gone.{left-state, own-words, both-state}
use Rattle.meson_edit.proofs.exchange.Removed.{fits, found, stands, cut-own, words-group}
use Rattle.meson_edit.proofs.exchange.Begun.{end-depth}
use Rattle.meson_edit.proofs.exchange.Ends.{end-changed, end-stands}
use Rattle.meson_edit.proofs.exchange.ReadAgain.{no-mark}

-- ---- statements in their blocks

module _ (limits : Limits) (bytes : List ℕ) (f : File Span) (s : IsSpannedWithin limits bytes f) (path : List ℕ) (b : BlockAt Span) (is : block_at f path ≡ Some b)
    (n : ℕ) (x : Statement Span) (at : statement_in b.inside n ≡ Some x) where
  pub line-stands : LineStands s.reads.spells.items (statement_span x) (statement_words x) (file_words (b.back (block_without b.inside n)))
  line-stands =
      let st = stands limits bytes f s path b is n x at in
      let o = fits limits bytes f s path b is n x at in
      let i = found limits bytes f s path b is n x at in
      let items = s.reads.spells.items in
      let each = s.reads.spells.are_items.each in
      let a = o.before ++ i.earlier in
      let c = i.later ++ o.behind in
      let lines = lines-append o.before i.earlier o.lines i.lines in
      let flat = statement-flat Span x in
      record {
        left = st.left;
        own = st.own;
        right = st.right;
        parts = st.parts;
        from = st.from;
        to = st.to;
        tight = st.tight;
        begins = left-state items each (statement_span x) a c (statement_words x) st lines flat;
        is_own = own-words items each (statement_span x) a c (statement_words x) st lines flat;
        ends = both-state items each (statement_span x) a c (statement_words x) st lines flat;
        more = c;
        is_right = st.is_right;
        is_rest =
            ap (λ w. w ++ c) st.is_left ∙ words-group o.before i.earlier i.later o.behind ∙ ap (λ w. o.before ++ (w ++ o.behind)) (sym i.others) ∙ sym (o.put (block_without b.inside n));
      }

  -- nothing may stand behind its last item
  pub own-text : (left own right : List Lexeme) → IsItemList bytes (left ++ (own ++ right)) → length (joined left) ≡ (statement_span x).from → length (joined (left ++ own)) ≡ (statement_span x).to
      → IsStatementText (joined own) (statement_words x)
  unfolding line-stands
  own-text left own right are from to =
      let st = line-stands in
      let is_own = cut-own limits bytes f s path b is n x at left own right are from to in
      let each = (AreItems-split own right [] (AreItems-split left (own ++ right) [] are.each).1).0 in
      record {
        items = own;
        are_items = record { joins = refl; each = end-changed own (joined right ++ []) [] each (λ front y is i. end-stands y (joined right ++ []) i) };
        is_words = ap (emitted start) is_own ∙ st.is_own;
        tight = subst IsTight (sym is_own) st.tight;
      }

-- ---- texts in one line

plain-role : (r : Role) (s : State) (w : Word) → (r ≡ Ends → ⊥) → emit_by r s w ≡ spoken_by r w
plain-role Gap s w h = refl
plain-role Ends s w h = absurd (h refl)
plain-role Opens s w h = refl
plain-role Closes s w h = refl
plain-role Other s w h = refl

pub ends-line : (κ : Kind) → (κ ≡ k.LineEnd → ⊥) → role κ ≡ Ends → ⊥
ends-line k.LineEnd h e = h refl
ends-line _ h e = absurd cc

line-emitted : (s : State) (xs : List Lexeme) → HasNoLineEnd xs → emitted s xs ≡ spoken xs
line-emitted s [] h = refl
line-emitted s (x ∷ xs) h = ap₂ (λ u v. u ++ v) (plain-role (role x.kind) s (x.kind, kept x.kind x.text) (ends-line x.kind h.0)) (line-emitted (step s x) xs h.1)

pub line-text : (text : List ℕ) (items : List Lexeme) → IsItemList text items → HasNoLineEnd items → IsTight items → (words : List Word) → spoken items ≡ words → IsStatementText text words
line-text text items are none tight words is = record { items = items; are_items = are; is_words = line-emitted start items none ∙ is; tight = tight }

-- ---- ends

pub file-end : (bytes : List ℕ) (t : Plain) → Spells bytes t → (items : List Lexeme) → IsItemList bytes items → (after start items).depth ≡ 0
file-end bytes t s items are =
    let same = one_list bytes items s.items are s.are_items in
    ap (λ l. (after start l).depth) same ∙ end-depth s.items (subst Lines (sym s.words) (file-lines Nowhere t))

pub statement-end : (x : Statement Nowhere) (text : List ℕ) (s : IsStatementText text (statement_words x)) → after start s.items ≡ in_line
statement-end x text s = tight-state s.items (statement_words x) s.tight s.is_words (statement-flat Nowhere x)

-- ---- texts

pub cut-utf8 : (bytes : List ℕ) (front back : List Lexeme) → IsItemList bytes (front ++ back) → IsUtf8 bytes → IsUtf8 (joined front) × IsUtf8 (joined back)
cut-utf8 bytes front back are u = utf8-cut front back are.each (subst IsUtf8 (sym are.joins) u)

pub spelled-reads : (limits : Limits) (bytes : List ℕ) (t : Plain) → Spells bytes t → IsUtf8 bytes → Fits limits.len (length bytes) → file_depth t ≤ limits.depth → ReadsWithin limits bytes t
spelled-reads limits bytes t s utf8 fits depth = record { source = record { fits = fits; utf8 = utf8; no_mark = no-mark bytes s.items s.are_items }; spells = s; depth = depth }
