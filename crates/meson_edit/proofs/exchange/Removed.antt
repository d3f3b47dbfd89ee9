-- A text without a statement spells, and reads as, the tree without it.
use Rattle.meson_edit.proofs.Words.{◌≡◌, ℕ, ◌≤◌, List, [], ◌∷◌, ◌++◌, length, Some, refl, sym, ap, subst, ◌∙◌, append_assoc, inl, inr, IsUtf8, IsUtf8-append}
use Rattle.meson_edit.proofs.Words.{Lexeme, joined, IsItemList, AreItems, located, new_line, Span, one_list, joined-append, statement_words, LevelFile}
use Rattle.meson_edit.proofs.Words.{file_depth, of_statement, Fits, Spells, ReadsWithin, IsSpannedWithin, Statement, File, erase, Limits, file-words-erased}
use Rattle.meson_edit.proofs.Words.{file-level-erased, file-depth-erased, BlockAt, block_at, statement_in, block_without, IsTrimmed, IsLineRest, statement_span}
use Rattle.meson_edit.proofs.Words.{StandsAmongItems, append_cancel_left, append_cancel_right}
use Rattle.meson_edit.proofs.places.Inside.{inside-part}
use Rattle.meson_edit.proofs.places.Standing.{node-stands}
use Rattle.meson_edit.proofs.exchange.States.{lines-append}
use Rattle.meson_edit.proofs.exchange.StatementLines.{statement-flat}
use Rattle.meson_edit.proofs.exchange.Cuts.{same-items, utf8-cut}
use Rattle.meson_edit.proofs.exchange.AmongStatements.{BlockFits, block-fits, BlockStands, block-stands, InBlock, in-block, without-level}
use Rattle.meson_edit.proofs.exchange.Gone.{gone-words, gone-items}
use Rattle.meson_edit.proofs.exchange.ReadAgain.{no-mark}

pub removals-level : (f : File Span) (path : List ℕ) (b : BlockAt Span) → block_at f path ≡ Some b → LevelFile f → (n : ℕ) → LevelFile (b.back (block_without b.inside n))
removals-level f path b is level n = let fits = block-fits Span f path b is in fits.outside level (block_without b.inside n) (without-level b.inside n (fits.level level))

-- ---- the texts on both sides

behind-cut : {A : Type 0} (left own gone back : List A) → left ++ (own ++ (gone ++ back)) ≡ (left ++ (own ++ gone)) ++ back
behind-cut left own gone back = simp append_assoc

before-cut : {A : Type 0} (front : List A) (x : A) (more : List A) → (front ++ x ∷ []) ++ more ≡ front ++ x ∷ more
before-cut front x more = simp append_assoc

front-utf8 : (left rest front back : List Lexeme) → AreItems (left ++ rest) [] → IsUtf8 (joined (left ++ rest)) → IsTrimmed left front back → IsUtf8 (joined front)
front-utf8 left rest front back each u (inl t) =
    let parts : left ++ rest ≡ front ++ t.0 ∷ rest = ap (λ l. l ++ rest) t.2 ∙ before-cut front t.0 rest in
    (utf8-cut front (t.0 ∷ rest) (subst (λ l. AreItems l []) parts each) (subst (λ l. IsUtf8 (joined l)) parts u)).0
front-utf8 left rest front back each u (inr t) = subst (λ l. IsUtf8 (joined l)) t.0 (utf8-cut left rest each u).0

sides-utf8 : (left own gone back front : List Lexeme) → AreItems (left ++ (own ++ (gone ++ back))) [] → IsUtf8 (joined (left ++ (own ++ (gone ++ back)))) → IsTrimmed left front back
    → IsUtf8 (joined (front ++ back))
sides-utf8 left own gone back front each u t =
    let parts = behind-cut left own gone back in
    let behind = (utf8-cut (left ++ (own ++ gone)) back (subst (λ l. AreItems l []) parts each) (subst (λ l. IsUtf8 (joined l)) parts u)).1 in
    subst IsUtf8 (sym (joined-append front back)) (IsUtf8-append (joined front) (joined back) (front-utf8 left (own ++ (gone ++ back)) front back each u t) behind)

pub words-group : {A : Type 0} (a b c d : List A) → (a ++ b) ++ (c ++ d) ≡ a ++ ((b ++ c) ++ d)
words-group a b c d = simp append_assoc

module _ (limits : Limits) (bytes : List ℕ) (f : File Span) (s : IsSpannedWithin limits bytes f) (path : List ℕ) (b : BlockAt Span) (is : block_at f path ≡ Some b)
    (n : ℕ) (x : Statement Span) (at : statement_in b.inside n ≡ Some x) where
  pub placed : BlockStands f path b
  placed = block-stands f path b is

  abbrev pub fits : BlockFits Span f path b
  fits = placed.fits

  pub found : InBlock b.inside n x
  found = in-block b.inside n x at

  abbrev items : List Lexeme
  items = s.reads.spells.items

  pub stands : StandsAmongItems items (statement_span x) (fits.before ++ found.earlier) (statement_words x) (new_line ∷ (found.later ++ fits.behind))
  stands =
      let u = placed.spelled (length bytes) limits.depth (located items) s.stands in
      let v = found.spelled u.depth u.last u.own u.spelled in
      node-stands items of_statement x (fits.before ++ found.earlier) (new_line ∷ (found.later ++ fits.behind))
      (inside-part of_statement x found.earlier (new_line ∷ found.later) fits.before fits.behind (located items) u.front u.own u.back u.parts u.is_front u.is_back v)

  -- the items that the statement's span cuts out
  pub cut-items : (left own right : List Lexeme) → IsItemList bytes (left ++ (own ++ right)) → length (joined left) ≡ (statement_span x).from → length (joined (left ++ own)) ≡ (statement_span x).to
      → (left ≡ stands.left) × (right ≡ stands.right)
  cut-items left own right are from to =
      let whole : left ++ (own ++ right) ≡ stands.left ++ (stands.own ++ stands.right) = one_list bytes (left ++ (own ++ right)) items are s.reads.spells.are_items ∙ stands.parts in
      let first = same-items left (own ++ right) stands.left (stands.own ++ stands.right) whole are.each (from ∙ stands.from) in
      let second = same-items (left ++ own) right (stands.left ++ stands.own) stands.right
      (append_assoc left own right ∙ whole ∙ sym (append_assoc stands.left stands.own stands.right)) (subst (λ l. AreItems l []) (sym (append_assoc left own right)) are.each) (to ∙ stands.to) in
      (first.0, second.1)

  pub cut-own : (left own right : List Lexeme) → IsItemList bytes (left ++ (own ++ right)) → length (joined left) ≡ (statement_span x).from → length (joined (left ++ own)) ≡ (statement_span x).to
      → own ≡ stands.own
  cut-own left own right are from to =
      let same = cut-items left own right are from to in
      let whole : left ++ (own ++ right) ≡ stands.left ++ (stands.own ++ stands.right) = one_list bytes (left ++ (own ++ right)) items are s.reads.spells.are_items ∙ stands.parts in
      let behind : own ++ right ≡ stands.own ++ stands.right =
      append_cancel_left stands.left (own ++ right) (stands.own ++ stands.right) (ap (λ l. l ++ (own ++ right)) (sym same.0) ∙ whole) in
      append_cancel_right own stands.own stands.right (ap (λ r. own ++ r) (sym same.1) ∙ behind)

  module _ (left own right : List Lexeme) (are : IsItemList bytes (left ++ (own ++ right))) (from : length (joined left) ≡ (statement_span x).from) (to : length (joined (left ++ own)) ≡ (statement_span x).to)
      (front gone back : List Lexeme) (trim : IsTrimmed left front back) (cut : right ≡ gone ++ back) (rest : IsLineRest gone) where
    abbrev without : File Span
    without = b.back (block_without b.inside n)

    pub statement-gone : Spells (joined (front ++ back)) (erase without)
    statement-gone =
        let same = cut-items left own right are from to in
        let a = fits.before ++ found.earlier in
        let c = found.later ++ fits.behind in
        let lines = lines-append fits.before found.earlier fits.lines found.lines in
        let flat = statement-flat Span x in
        let trimmed = subst (λ l. IsTrimmed l front back) same.0 trim in
        let parted = sym same.1 ∙ cut in
        let words = gone-words items s.reads.spells.are_items.each (statement_span x) a c (statement_words x) stands lines flat front gone back parted rest trimmed in
        let put = fits.put (block_without b.inside n) in
        record {
          items = front ++ back;
          are_items = record { joins = refl; each = gone-items items s.reads.spells.are_items.each (statement_span x) a c (statement_words x) stands lines flat front gone back parted rest trimmed };
          words = words ∙ words-group fits.before found.earlier found.later fits.behind ∙ ap (λ w. fits.before ++ (w ++ fits.behind)) (sym found.others) ∙ sym put ∙ sym (file-words-erased without);
          level = subst (λ A. A) (sym (file-level-erased without)) (removals-level f path b is (subst (λ A. A) (file-level-erased f) s.reads.spells.level) n);
        }

    pub removal-reads : Fits limits.len (length (joined (front ++ back))) → file_depth without ≤ limits.depth → ReadsWithin limits (joined (front ++ back)) (erase without)
    removal-reads short depth =
        let spells = statement-gone in
        let parts : left ++ (own ++ right) ≡ left ++ (own ++ (gone ++ back)) = ap (λ r. left ++ (own ++ r)) cut in
        record {
          source = record {
            fits = short;
            utf8 = sides-utf8 left own gone back front (subst (λ l. AreItems l []) parts are.each) (subst IsUtf8 (sym are.joins ∙ ap joined parts) s.reads.source.utf8) trim;
            no_mark = no-mark (joined (front ++ back)) spells.items spells.are_items;
          };
          spells = spells;
          depth = rw (file-depth-erased without) depth;
        }
