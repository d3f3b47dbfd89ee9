-- A text in square brackets is a list of one element exactly where the text is an expression.
use Rattle.meson_steps.proofs.Words.{◌≡◌, ℕ, ◌+◌, ◌≤◌, List, [], ◌∷◌, ◌++◌, map, refl, sym, ap, ◌∙◌, subst, inl, inr, arith, Bool, true, false, not, ◌&&◌}
use Rattle.meson_steps.proofs.Words.{reverse, if◌then◌else◌, list_all, append_cancel_right, append-nil, map-append, reverse-append, reverse-reverse}
use Rattle.meson_steps.proofs.Words.{IsUtf8-append, AreItems, IsItemList, Lexeme, joined, OfKind, role, IsTight, speaks, Kind, AreItems-append, AreItems-split}
use Rattle.meson_steps.proofs.Words.{joined-append, is_remark, remarks, LevelExpression, expression_depth, expression_words, ReadsListWithin, plain, named}
use Rattle.meson_steps.proofs.Words.{pair, no_arguments, argument, Expression, Listing, listing, Nowhere, erase_listing, IsWritten, IsExpression, in_brackets}
use Rattle.meson_steps.proofs.Words.{is_bare, is_lone, speaks_first}
use Rattle.std.proofs.Common.{IsUtf8}
use Rattle.std.specs.Char.{encode_utf8}
use Rattle.meson_lex.specs.declared.kinds.Kind.TheVariants as k
use Rattle.meson_lex.specs.Bytes.{begins_bare_return}
use Rattle.meson_lex.specs.Neighbours.{Shape, StandsBefore, blanks, note, name, word, quoted, format_quoted, extendable, closed, shape}
use Rattle.meson_syntax.specs.declared.operator.Bracket.TheVariants as bracket

-- ---- an item before nothing, and before `]`

-- what may be before `]` may be last
module _ (text : List ℕ) where
  last : (s : Shape) (rest : List ℕ) → StandsBefore s text (rest ++ 93 ∷ []) → StandsBefore s text (rest ++ [])
  last blanks [] h = refl
  last blanks (b ∷ bs) h = h
  last note [] h = inl refl
  last note (b ∷ []) (inl none) = absurd (let no : ⊥ = cc in no)
  last note (b ∷ []) (inr h) = inr (h.0, lone_return h.1)
    where
      lone_return : begins_bare_return (b ∷ 93 ∷ []) ≡ false → begins_bare_return (b ∷ []) ≡ false
      lone_return e = e
  last note (b ∷ c ∷ bs) (inl none) = absurd (let no : ⊥ = cc in no)
  last note (b ∷ c ∷ bs) (inr h) = inr h
  last name [] h = (refl, λ is. refl)
  last name (b ∷ bs) h = h
  last word [] h = refl
  last word (b ∷ bs) h = h
  last quoted [] h = λ is. refl
  last quoted (b ∷ bs) h = h
  last format_quoted [] h = λ is. refl
  last format_quoted (b ∷ bs) h = h
  last extendable [] h = refl
  last extendable (b ∷ bs) h = h
  last closed rest h = tt

-- what may be last may be before `]` or a comma, but for a comment
abbrev stop : Bool → ℕ
stop ends = if ends then 93 else 44

module _ (text more : List ℕ) where
  before_stop : (ends : Bool) (s : Shape) (rest : List ℕ) → (s ≡ note → ⊥) → StandsBefore s text (rest ++ []) → StandsBefore s text (rest ++ stop ends ∷ more)
  before_stop true blanks [] apart h = refl
  before_stop false blanks [] apart h = refl
  before_stop ends note rest apart h = absurd (apart refl)
  before_stop true name [] apart h = (refl, λ is. refl)
  before_stop false name [] apart h = (refl, λ is. refl)
  before_stop true word [] apart h = refl
  before_stop false word [] apart h = refl
  before_stop true quoted [] apart h = λ is. refl
  before_stop false quoted [] apart h = λ is. refl
  before_stop true format_quoted [] apart h = λ is. refl
  before_stop false format_quoted [] apart h = λ is. refl
  before_stop true extendable [] apart h = refl
  before_stop false extendable [] apart h = refl
  before_stop ends closed rest apart h = tt
  before_stop ends _ (b ∷ bs) apart h = h

shape_quiet : (κ : Kind) → is_remark κ ≡ false → shape κ ≡ note → ⊥
shape_quiet k.Comment quiet is = let no : ⊥ = cc in no
shape_quiet k.Blank quiet is = let no : ⊥ = cc in no
shape_quiet k.LineEnd quiet is = let no : ⊥ = cc in no
shape_quiet _ quiet is = let no : ⊥ = cc in no

items_last : (xs : List Lexeme) → AreItems xs (93 ∷ []) → AreItems xs []
items_last [] are = tt
items_last (x ∷ xs) are = ((are.0.0, are.0.1, last x.text (shape x.kind) (joined xs) are.0.2), items_last xs are.1)

quiet_first : (x : Lexeme) (xs : List Lexeme) → remarks (x ∷ xs) ≡ [] → (is_remark x.kind ≡ false) × (remarks xs ≡ [])
quiet_first x xs quiet = go (is_remark x.kind) refl quiet
  where
    go : (b : Bool) → is_remark x.kind ≡ b → (if b then x ∷ remarks xs else remarks xs) ≡ [] → (is_remark x.kind ≡ false) × (remarks xs ≡ [])
    go true is h = absurd (let no : ⊥ = cc in no)
    go false is h = (is, h)

pub items_stop : (ends : Bool) (more : List ℕ) (xs : List Lexeme) → remarks xs ≡ [] → AreItems xs [] → AreItems xs (stop ends ∷ more)
items_stop ends more [] quiet are = tt
items_stop ends more (x ∷ xs) quiet are =
    let q = quiet_first x xs quiet in
    ((are.0.0, are.0.1, before_stop x.text more ends (shape x.kind) (joined xs) (shape_quiet x.kind q.0) are.0.2), items_stop ends more xs q.1 are.1)

-- ---- the ends of items

both : (a b : Bool) → (a && b) ≡ true → (a ≡ true) × (b ≡ true)
both true b h = (refl, h)
both false b h = absurd (let no : ⊥ = cc in no)

quiet : (xs : List Lexeme) → list_all (λ κ. not (is_remark κ)) (map (λ x. x.kind) xs) ≡ true → remarks xs ≡ []
quiet [] h = refl
quiet (x ∷ xs) h = go (is_remark x.kind) refl (both (not (is_remark x.kind)) _ h) (quiet xs)
  where
    go : (b : Bool) → is_remark x.kind ≡ b → (not (is_remark x.kind) ≡ true) × (list_all (λ κ. not (is_remark κ)) (map (λ y. y.kind) xs) ≡ true)
        → (list_all (λ κ. not (is_remark κ)) (map (λ y. y.kind) xs) ≡ true → remarks xs ≡ []) → (if is_remark x.kind then x ∷ remarks xs else remarks xs) ≡ []
    go true is h rest = absurd (let no : ⊥ = let e = ap not (sym is) ∙ h.0 in cc in no)
    go false is h rest = ap (λ b. if b then x ∷ remarks xs else remarks xs) is ∙ rest h.1

unquiet : (xs : List Lexeme) → remarks xs ≡ [] → list_all (λ κ. not (is_remark κ)) (map (λ x. x.kind) xs) ≡ true
unquiet [] h = refl
unquiet (x ∷ xs) h = let q = quiet_first x xs h in ap (λ b. not b && list_all (λ κ. not (is_remark κ)) (map (λ y. y.kind) xs)) q.0 ∙ unquiet xs q.1

record Begins (xs : List Lexeme) : Type 0 where
  first : Lexeme
  more : List Lexeme
  is : xs ≡ first ∷ more
  speaks_up : speaks (role first.kind) ≡ true

begins_with : (xs : List Lexeme) → speaks_first (map (λ x. x.kind) xs) ≡ true → Begins xs
begins_with [] h = absurd (let no : ⊥ = cc in no)
begins_with (x ∷ xs) h = record { first = x; more = xs; is = refl; speaks_up = h }

turned_back : (xs : List Lexeme) (b : Begins (reverse xs)) → xs ≡ reverse b.more ++ b.first ∷ []
turned_back xs b = sym (reverse-reverse xs) ∙ ap reverse b.is ∙ reverse-append (b.first ∷ []) b.more

map_turned : {X Y : Type 0} (f : X → Y) (xs : List X) → map f (reverse xs) ≡ reverse (map f xs)
map_turned f [] = refl
map_turned f (x ∷ xs) =
    ap (map f) (reverse-append (x ∷ []) xs) ∙ map-append f (reverse xs) (x ∷ []) ∙ ap (λ ys. ys ++ f x ∷ []) (map_turned f xs) ∙ sym (reverse-append (f x ∷ []) (map f xs))

pub tight : (xs : List Lexeme) → is_bare (map (λ x. x.kind) xs) ≡ true → IsTight xs × (remarks xs ≡ [])
tight xs h =
    let kinds = map (λ (x : Lexeme). x.kind) xs in
    let all = both (list_all (λ κ. not (is_remark κ)) kinds) (speaks_first kinds && speaks_first (reverse kinds)) h in
    let ends = both (speaks_first kinds) (speaks_first (reverse kinds)) all.1 in
    let front = begins_with xs ends.0 in
    let back = begins_with (reverse xs) (ap speaks_first (map_turned (λ (x : Lexeme). x.kind) xs) ∙ ends.1) in
    (record { first = front.first; more = front.more; begins = front.is; first_speaks = front.speaks_up; front = reverse back.more; last = back.first; ends = turned_back xs back; last_speaks = back.speaks_up }, quiet xs all.0)

pub bare : (xs : List Lexeme) → IsTight xs → remarks xs ≡ [] → is_bare (map (λ x. x.kind) xs) ≡ true
bare xs t none =
    let kinds = map (λ (x : Lexeme). x.kind) xs in
    let begins_it : speaks_first kinds ≡ true = ap (λ l. speaks_first (map (λ (x : Lexeme). x.kind) l)) t.begins ∙ t.first_speaks in
    let turned : reverse xs ≡ t.last ∷ reverse t.front = ap reverse t.ends ∙ reverse-append t.front (t.last ∷ []) in
    let ends_it : speaks_first (reverse kinds) ≡ true =
    sym (ap speaks_first (map_turned (λ (x : Lexeme). x.kind) xs)) ∙ ap (λ l. speaks_first (map (λ (x : Lexeme). x.kind) l)) turned ∙ t.last_speaks in
    ap (λ b. b && (speaks_first kinds && speaks_first (reverse kinds))) (unquiet xs none) ∙ ap (λ b. b && speaks_first (reverse kinds)) begins_it ∙ ends_it

-- ---- lists of one element

record Lone (l : Listing Nowhere) : Type 0 where
  inside : Expression Nowhere
  is : l ≡ listing tt false (argument (plain inside) no_arguments)

lone_is : (l : Listing Nowhere) → is_lone l ≡ true → Lone l
lone_is (listing s false (argument (plain e) no_arguments)) h = record { inside = e; is = refl }
lone_is (listing s true (argument (plain e) no_arguments)) h = absurd (let no : ⊥ = cc in no)
lone_is (listing s trailing no_arguments) h = absurd (let no : ⊥ = cc in no)
lone_is (listing s trailing (argument (named t x e) no_arguments)) h = absurd (let no : ⊥ = cc in no)
lone_is (listing s trailing (argument (pair t e f) no_arguments)) h = absurd (let no : ⊥ = cc in no)
lone_is (listing s trailing (argument a (argument b more))) h = absurd (let no : ⊥ = cc in no)

pub lone_erased : {S : Type 0} (l : Listing S) → is_lone (erase_listing l) ≡ is_lone l
lone_erased (listing s trailing no_arguments) = refl
lone_erased (listing s trailing (argument (plain e) no_arguments)) = refl
lone_erased (listing s trailing (argument (named t x e) no_arguments)) = refl
lone_erased (listing s trailing (argument (pair t e f) no_arguments)) = refl
lone_erased (listing s trailing (argument a (argument b more))) = refl

-- ---- the text in brackets

abbrev opening : Lexeme
opening = record { kind = k.OpenSquare; text = 91 ∷ [] }

abbrev ending : Lexeme
ending = record { kind = k.CloseSquare; text = 93 ∷ [] }

opening_utf8 : IsUtf8 (91 ∷ [])
unfolding encode_utf8
opening_utf8 = (91 ∷ [], (refl, refl))

ending_utf8 : IsUtf8 (93 ∷ [])
unfolding encode_utf8
ending_utf8 = (93 ∷ [], (refl, refl))

module _ (bytes : List ℕ) where
  abbrev whole : List ℕ
  whole = 91 ∷ (bytes ++ 93 ∷ [])

  pub bracketed_items : (xs : List Lexeme) → IsItemList bytes xs → remarks xs ≡ [] → IsItemList whole (in_brackets xs)
  bracketed_items xs list none = record {
    joins = ap (λ t. 91 ∷ t) (joined-append xs (ending ∷ []) ∙ ap (λ b. b ++ 93 ∷ []) list.joins);
    each = ((refl, refl, tt), AreItems-append xs (ending ∷ []) [] (items_stop true [] xs none list.each) ((refl, refl, tt), tt));
  }

  pub whole_utf8 : IsUtf8 bytes → IsUtf8 whole
  whole_utf8 utf8 = IsUtf8-append (91 ∷ []) (bytes ++ 93 ∷ []) opening_utf8 (IsUtf8-append bytes (93 ∷ []) utf8 ending_utf8)

  pub written_complete : (d : ℕ) (node : Expression Nowhere) → IsWritten bytes (expression_words node) → LevelExpression node → expression_depth node ≤ d → ReadsListWithin (d + 1) bracket.Square whole (listing tt false (argument (plain node) no_arguments))
  written_complete d node w level shallow =
      let xs = w.items in
      let n = w.is_new in
      record {
        utf8 = whole_utf8 w.utf8;
        text = record {
          open_item = opening;
          inner = xs;
          close_item = ending;
          are_items = bracketed_items xs n.are_items n.no_remarks;
          is_open = refl;
          is_close = refl;
          is_inner = w.is_words ∙ sym (append-nil (expression_words node));
        };
        level = (tt, ((refl, refl, level), tt));
        depth = omega (arith, shallow);
      }

  pub complete : (x : IsExpression bytes) → ReadsListWithin 65 bracket.Square whole (listing tt false (argument (plain x.node) no_arguments))
  complete x = written_complete 64 x.node x.writes x.level x.shallow

  pub sound : IsUtf8 bytes → ((xs : List Lexeme) → IsItemList bytes xs → is_bare (map (λ x. x.kind) xs) ≡ true) → (l : Listing Nowhere) → ReadsListWithin 65 bracket.Square whole l → is_lone l ≡ true
      → IsExpression bytes
  sound utf8 all_bare l reads alone =
      let o = lone_is l alone in
      let r = subst (ReadsListWithin 65 bracket.Square whole) o.is reads in
      let t = r.text in
      let inner = t.inner in
      let opens_it : t.open_item.text ≡ 91 ∷ [] = subst (λ κ. OfKind κ t.open_item.text) t.is_open t.are_items.each.0.0 in
      let parted = AreItems-split inner (t.close_item ∷ []) [] t.are_items.each.1 in
      let ends_it : t.close_item.text ≡ 93 ∷ [] = subst (λ κ. OfKind κ t.close_item.text) t.is_close parted.1.0.0 in
      let are = subst (λ c. AreItems inner ((c ++ []) ++ [])) ends_it parted.0 in
      let rest : joined (inner ++ t.close_item ∷ []) ≡ bytes ++ 93 ∷ [] =
      (let e = sym (ap (λ b. b ++ joined (inner ++ t.close_item ∷ [])) opens_it) ∙ t.are_items.joins in cc) in
      let front = sym (joined-append inner (t.close_item ∷ []) ∙ ap (λ c. joined inner ++ (c ++ [])) ends_it) ∙ rest in
      let list : IsItemList bytes inner = record { joins = append_cancel_right (joined inner) bytes (93 ∷ []) front; each = items_last inner are } in
      let ends = tight inner (all_bare inner list) in
      record {
        node = o.inside;
        writes = record {
          items = inner;
          is_new = record { are_items = list; tight = ends.0; no_remarks = ends.1 };
          is_words = t.is_inner ∙ append-nil (expression_words o.inside);
          utf8 = utf8;
        };
        level = r.level.1.0.2;
        shallow = omega (arith, r.depth);
      }
