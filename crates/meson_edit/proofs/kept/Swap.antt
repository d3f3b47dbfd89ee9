-- In a file that located tokens spell, the tokens of a list may be exchanged for those of another list with the same span.
use Rattle.meson_edit.proofs.Words.{◌≡◌, ℕ, ◌≤◌, List, [], ◌++◌, Some, refl, ap, subst, ◌∙◌, append_assoc, arith, append-nil, Token, words, Word, Span}
use Rattle.meson_edit.proofs.Words.{file_depth, Sort, of_expression, of_statement, of_block, Node, reach, block_of, with_block, ListIn, list_in, list_span}
use Rattle.meson_edit.proofs.Words.{ListAt, list_within, list_of_node, Covers, SpellsExpression, SpellsListing, SpellsFile, Expression, array, dictionary, call}
use Rattle.meson_edit.proofs.Words.{Block, File, file, erase, file-depth-erased, some-injective, listing_in, name-words, map-some, and-then-some}
use Rattle.meson_edit.proofs.Words.{listing-covers, join-words}
use Rattle.meson_syntax.specs.declared.operator.Bracket.TheVariants as bracket
use Rattle.meson_edit.specs.Swap.{ListSwaps, ListsSwap}
use Rattle.meson_edit.proofs.places.SameEnds.{same-ends, ends-around, cover}
use Rattle.meson_edit.proofs.places.Joined.{alone, next-last}
use Rattle.meson_edit.proofs.places.Inside.{SpellsOther, InHole, Rebuilds, last-part, whole-part}
use Rattle.meson_edit.proofs.places.InExpressions.{OtherListing}
use Rattle.meson_edit.proofs.places.InStatements.{reach-holds}
use Rattle.meson_edit.proofs.places.Standing.{block-spelled}

-- the list of an expression, and another one there
record ListHolds (x : Expression Span) (l : ListIn Span) (d : ℕ) (ts : List Token) : Type 0 where
  front : List Token
  own : List Token
  parts : ts ≡ front ++ (own ++ [])
  is_front : words front ≡ l.ahead
  spelled : SpellsListing l.list l.bracket d own
  swap : Rebuilds (OtherListing l.bracket d) (SpellsOther of_expression x d 0) l.back front own []

list-holds : (x : Expression Span) (l : ListIn Span) (d : ℕ) (ts : List Token) → list_in x ≡ Some l → SpellsExpression x d ts → ListHolds x l d ts
list-holds (array m) l d ts is sp = subst (λ l. ListHolds (array m) l d ts) (some-injective _ _ is) (record {
  front = [];
  own = ts;
  parts = whole-part ts;
  is_front = refl;
  spelled = sp;
  swap = λ z new ends other room. (omega arith, alone (SpellsListing z bracket.Square d) new (other room));
})
list-holds (dictionary m) l d ts is sp = subst (λ l. ListHolds (dictionary m) l d ts) (some-injective _ _ is) (record {
  front = [];
  own = ts;
  parts = whole-part ts;
  is_front = refl;
  spelled = sp;
  swap = λ z new ends other room. (omega arith, alone (SpellsListing z bracket.Curly d) new (other room));
})
list-holds (call s x m) l d ts is sp =
    let p = sp.1 in
    let parts = last-part ts p.front p.back p.joined in
    subst (λ l. ListHolds (call s x m) l d ts) (some-injective _ _ is) (record {
      front = p.front;
      own = p.back;
      parts = parts;
      is_front = name-words x p.front p.first;
      spelled = p.second;
      swap = λ z new ends other room. (omega arith, (cover _ new ends s ts p.front [] parts sp.0, next-last p.front new p.first (other room)));
    })
list-holds _ l d ts is sp = absurd cc

-- a file with another block
with-spelled : (f : File Span) (b : Block Span) (len d : ℕ) (ts new : List Token) → SpellsFile f len d ts → SpellsOther of_block (block_of f) d 0 b new
    → file_depth (erase (with_block f b)) ≤ d → SpellsFile (with_block f b) len d new
with-spelled (file s c) b len d ts new h other room =
    let w = other (subst (λ n. n ≤ d) (file-depth-erased (file s b)) room) in
    (h.0, h.1, w.1)

group : {A : Type 0} (a b o c : List A) → a ++ ((b ++ (o ++ [])) ++ c) ≡ (a ++ b) ++ (o ++ c)
group a b o c = simp (append_assoc, append-nil)

node-swaps : (f : File Span) (len d : ℕ) (ts : List Token) → SpellsFile f len d ts
    → (sort : Sort) (x : Node sort Span) (before behind : List Word) (back : Node sort Span → Block Span) (p : ListAt Span)
    → InHole (Block Span) (SpellsOther of_block (block_of f) d 0) ts (record { sort = sort; inside = x; before = before; behind = behind; back = back })
    → list_of_node Span sort x f before behind back ≡ Some p → ListSwaps len d ts p
node-swaps f len d ts sp of_expression x before behind back p i is =
    let o = map-some (list_within f before behind back) (list_in x) p is in
    let l = o.0 in
    let u = i.inside in
    let w = list-holds x l u.depth u.own o.1 u.spelled in
    subst (ListSwaps len d ts) o.2 (record {
      inner = u.depth;
      front = u.front ++ w.front;
      own = w.own;
      back = u.back;
      parts = u.parts ∙ ap (λ z. u.front ++ (z ++ u.back)) w.parts ∙ group u.front w.front w.own u.back;
      is_front = join-words u.front w.front before l.ahead u.is_front w.is_front;
      is_back = u.is_back;
      spelled = w.spelled;
      swap = λ m c new spelled same room.
          let covers = subst (λ s. Covers s new) same (listing-covers m l.bracket c new spelled) in
          let ends = same-ends (list_span l.list) w.own new (listing-covers l.list l.bracket u.depth w.own w.spelled) covers in
          let other = w.swap m new ends (λ fits. listing_in m l.bracket c u.depth new spelled fits) in
          let all = i.swap (l.back m) (w.front ++ (new ++ [])) (ends-around u.own w.front w.own [] new w.parts ends) other in
          let b = back (l.back m) in
          subst (SpellsFile (with_block f b) len d) (group u.front w.front new u.back) (with-spelled f b len d ts _ sp all room);
    })
node-swaps f len d ts sp of_statement x before behind back p i is = absurd cc
node-swaps f len d ts sp of_block x before behind back p i is = absurd cc

pub lists-swap : ListsSwap
lists-swap f path p is len d ts sp =
    let o = and-then-some (λ h. list_of_node Span h.sort h.inside f h.before h.behind h.back) (reach Span of_block (block_of f) path) p is in
    let h = o.0 in
    node-swaps f len d ts sp h.sort h.inside h.before h.behind h.back p (reach-holds of_block (block_of f) path d 0 ts h o.1 (block-spelled f len d ts sp)) o.2
