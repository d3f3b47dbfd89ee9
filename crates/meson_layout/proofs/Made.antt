-- From what the pieces of an edit make of a list to what its splices make of the text.
use Rattle.std.proofs.Common.{◌≡◌, ℕ, List, [], ◌∷◌, ◌++◌, Ok, false, refl, sym, ap, ◌∙◌, subst, append_assoc}
use Rattle.meson_lex.specs.declared.kinds.Kind.{Kind}
use Rattle.meson_lex.specs.declared.kinds.Kind.TheVariants as k
use Rattle.meson_lex.specs.Items.{Lexeme, joined, AreItems, IsItemList}
use Rattle.meson_lex.specs.Significant.{Word, Opens, Closes, role}
use Rattle.meson_lex.proofs.Seams.{joined-append, AreItems-split}
use Rattle.meson_layout.specs.Looks as look
use Rattle.meson_lex.specs.Words.{spoken}
use Rattle.meson_layout.specs.Words.{remarks}
use Rattle.meson_layout.specs.Pieces.{Piece, splices, line_feed}
use Rattle.meson_layout.specs.inside.Pieces.{old_items, new_items}
use Rattle.meson_layout.specs.Edited.{ListOfItems, Keeps, Edited}
use Rattle.meson_layout.proofs.Near.{Follow, IsGood, AllGood, items-good, items-follow, good-join, good-front, good-rest}
use Rattle.meson_layout.proofs.Merge.{merge, merge-joined, merge-spoken, merge-remarks, merge-items, merge-listed}
use Rattle.meson_layout.proofs.Patched.{patched-pieces}

-- what stands between the brackets after an edit
pub record Made (o c : Lexeme) (left right inner : List Lexeme) (words : List Word) (notes : List Lexeme) : Type 0 where
  pub fits : Follow o (inner ++ c ∷ [])
  pub good : AllGood inner
  pub says : spoken inner ≡ words
  pub noted : remarks inner ≡ notes
  pub keeps : Keeps left right (joined inner)

-- what is known of a list among the items of a text
pub record Within (items : List Lexeme) (l : ListOfItems items) : Type 0 where
  pub fits : Follow l.open_item (l.inner ++ l.close_item ∷ l.rest)
  pub good_open : IsGood l.open_item
  pub good_inner : AllGood l.inner
  pub good_close : IsGood l.close_item

opens-solid : (κ : Kind) → role κ ≡ Opens → look.is_blank_kind κ ≡ false
opens-solid k.Blank h = absurd cc
opens-solid _ h = refl

closes-solid : (κ : Kind) → role κ ≡ Closes → look.is_blank_kind κ ≡ false
closes-solid k.Blank h = absurd cc
closes-solid _ h = refl

pub within : (source : List ℕ) (items : List Lexeme) (l : ListOfItems items) → IsItemList source items → Within items l
within source items l list =
    let each : AreItems (l.front ++ l.open_item ∷ (l.inner ++ l.close_item ∷ l.rest)) [] = subst (λ xs. AreItems xs []) l.parts list.each in
    let back = (AreItems-split l.front (l.open_item ∷ (l.inner ++ l.close_item ∷ l.rest)) [] each).1 in
    let good : AllGood (l.open_item ∷ (l.inner ++ l.close_item ∷ l.rest)) = items-good (l.open_item ∷ (l.inner ++ l.close_item ∷ l.rest)) [] back in
    record {
      fits = (items-follow line_feed (l.open_item ∷ (l.inner ++ l.close_item ∷ l.rest)) [] (λ y. tt) back).1;
      good_open = good.0;
      good_inner = good-front l.inner (l.close_item ∷ l.rest) good.1;
      good_close = (good-rest l.inner (l.close_item ∷ l.rest) good.1).0;
    }

pub listed-joined : (front inner rest : List Lexeme) (o c : Lexeme) → joined (front ++ o ∷ (inner ++ c ∷ rest)) ≡ joined front ++ (joined (o ∷ (inner ++ c ∷ [])) ++ joined rest)
listed-joined front inner rest o c =
    joined-append front (o ∷ (inner ++ c ∷ rest))
    ∙ ap (λ xs. joined front ++ joined (o ∷ xs)) (sym (append_assoc inner (c ∷ []) rest))
    ∙ ap (λ t. joined front ++ t) (joined-append (o ∷ (inner ++ c ∷ [])) rest)

pub edited : (file source : List ℕ) (items : List Lexeme) (l : ListOfItems items) (list : IsItemList source items) (ps : List Piece) (left right inner : List Lexeme) (words : List Word) (notes : List Lexeme)
    → old_items ps ≡ items → new_items ps ≡ l.front ++ l.open_item ∷ (inner ++ l.close_item ∷ l.rest) → Made l.open_item l.close_item left right inner words notes
    → Edited source items l left right (splices file 0 ps) words notes
edited file source items l list ps left right inner words notes old new made =
    let o = l.open_item in
    let c = l.close_item in
    let w = within source items l list in
    let all : List Lexeme = o ∷ (inner ++ c ∷ []) in
    let whole : List Lexeme = o ∷ (merge inner ++ c ∷ []) in
    let merged : merge all ≡ whole = merge-listed o c inner (opens-solid o.kind l.opens) (closes-solid c.kind l.closes) in
    let same : joined whole ≡ joined all = ap joined (sym merged) ∙ merge-joined all in
    let are = merge-items line_feed all (tt, made.fits) (w.good_open, good-join inner (c ∷ []) made.good (w.good_close, tt)) in
    record {
      inner = merge inner;
      text = joined whole;
      patches = patched-pieces file source ps (ap joined old ∙ list.joins)
          ∙ ap Ok (ap joined new ∙ listed-joined l.front inner l.rest o c ∙ ap (λ t. joined l.front ++ (t ++ joined l.rest)) (sym same));
      are_items = record { joins = refl; each = subst (λ xs. AreItems xs []) merged are };
      says = merge-spoken inner ∙ made.says;
      noted = merge-remarks inner ∙ made.noted;
      keeps = subst (Keeps left right) (sym (merge-joined inner)) made.keeps;
    }
