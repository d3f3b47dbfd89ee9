-- A list and its parts among the items of a text, as the layout wants them.
use Rattle.meson_edit.proofs.Words.{◌≡◌, ℕ, List, [], ◌∷◌, ◌++◌, length, sym, ap, ◌∙◌, append_assoc, Lexeme, joined, IsItemList, Word, role, Span}
use Rattle.meson_edit.proofs.Words.{joined-append, ListOfItems, PartIn, IsSpanOf, IsBracketOf, ListAt, list_span, open-bracket, close-bracket, ListStands}
use Rattle.meson_edit.proofs.Words.{PartStands}
use Rattle.meson_layout.proofs.Texts.{joined_three}

module _ (items : List Lexeme) (p : ListAt Span) (l : ListStands items p) where
  abbrev pub list_among : ListOfItems items
  list_among = record {
    front = l.left;
    open_item = l.open_item;
    inner = l.inner;
    close_item = l.close_item;
    rest = l.right;
    parts = l.parts;
    opens = let b = open-bracket p.bracket in ap role l.is_open ∙ b.is_role;
    closes = let b = close-bracket p.bracket in ap role l.is_close ∙ b.is_role;
  }

  abbrev pub part_among : (s : Span) (before words behind : List Word) → PartStands items p l s before words behind → PartIn items list_among s
  part_among s before words behind part = record {
    left = part.left;
    own = part.own;
    right = part.right;
    parts = part.parts;
    from = part.from;
    to = part.to;
    tight = part.tight;
  }

  -- ---- the bytes of the list

  -- the text cut before and behind the list
  pub record CutOut (bytes : List ℕ) : Type 0 where
    pub was : List ℕ
    pub parts : bytes ≡ joined l.left ++ (was ++ joined l.right)
    pub from : length (joined l.left) ≡ (list_span p.list).from
    pub to : length (joined l.left ++ was) ≡ (list_span p.list).to

  pub cut-out : (bytes : List ℕ) → IsItemList bytes items → CutOut bytes
  cut-out bytes are =
      let own : List Lexeme = l.open_item ∷ (l.inner ++ l.close_item ∷ []) in
      record {
        was = joined own;
        parts = sym are.joins ∙ ap joined l.parts ∙ ap (λ xs. joined (l.left ++ l.open_item ∷ xs)) (sym (append_assoc l.inner (l.close_item ∷ []) l.right)) ∙ joined_three l.left own l.right;
        from = sym l.from;
        to = ap length (sym (joined-append l.left own)) ∙ sym l.to;
      }

-- ---- borders of items

pub bracket-there : (items : List Lexeme) (l : ListOfItems items) (at : ℕ) → at ≡ length (joined l.front) → IsBracketOf items at
bracket-there items l at is = record { left = l.front; bracket = l.open_item; right = l.inner ++ l.close_item ∷ l.rest; joins = l.parts; place = is; opens = l.opens }

span-group : (f a b r : List Lexeme) (o x c : Lexeme) (m : List Lexeme) → f ++ o ∷ ((a ++ ((x ∷ m) ++ b)) ++ c ∷ r) ≡ (f ++ o ∷ a) ++ (x ∷ m ++ (b ++ c ∷ r))
span-group f a b r o x c m = simp append_assoc

pub span-there : (items : List Lexeme) (l : ListOfItems items) (s : Span) → PartIn items l s → IsSpanOf items s
span-there items l s p =
    let t = p.tight in
    record {
      left = l.front ++ l.open_item ∷ p.left;
      first = t.first;
      more = t.more;
      right = p.right ++ l.close_item ∷ l.rest;
      joins = l.parts ∙ ap (λ xs. l.front ++ l.open_item ∷ (xs ++ l.close_item ∷ l.rest)) (p.parts ∙ ap (λ own. p.left ++ (own ++ p.right)) t.begins)
          ∙ span-group l.front p.left p.right l.rest l.open_item t.first l.close_item t.more;
      from = p.from;
      to = p.to ∙ ap (λ own. length (joined (l.front ++ l.open_item ∷ (p.left ++ own)))) t.begins ∙ ap (λ xs. length (joined xs)) (sym (append_assoc l.front (l.open_item ∷ p.left) (t.first ∷ t.more)));
    }
