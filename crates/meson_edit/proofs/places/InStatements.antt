-- The tokens of a statement's and a block's children, and of the node that a path names; and another node among them.
use Rattle.meson_edit.proofs.Words.{option_map, ◌≡◌, ℕ, ◌≤◌, List, [], ◌∷◌, ◌++◌, Some, refl, sym, ap, subst, ◌∙◌, append_assoc, arith, Token, words, kept}
use Rattle.meson_edit.proofs.Words.{new_line, Kind, Span, mark, names_words, expression_words, statement_words, branches_words, otherwise_words, block_words}
use Rattle.meson_edit.proofs.Words.{HasBranch, branches_depth, otherwise_depth, statements_depth, assignment_kind, Sort, of_expression, of_statement, of_block}
use Rattle.meson_edit.proofs.Words.{Node, Hole, around, branches_children, otherwise_children, statement_children, statements_children, block_children}
use Rattle.meson_edit.proofs.Words.{children, nth_hole, reach, CoversBlock, NewLine, SpellsExpression, SpellsStatement, SpellsBranches, SpellsOtherwise}
use Rattle.meson_edit.proofs.Words.{SpellsStatements, SpellsBlock, Statement, evaluate, assign, selection, iteration, breaks, continues, Branches, no_branches}
use Rattle.meson_edit.proofs.Words.{branch, Otherwise, nothing_else, otherwise, Statements, no_statements, statement, Block, block, new-line-words, names-words}
use Rattle.meson_edit.proofs.Words.{statement-words, branches-words, otherwise-words, statements-words, block-words, assignment-drops, some-injective}
use Rattle.meson_edit.proofs.Words.{name-words, one-words, then-words, expression-words, Every, every-append, every-nth, map-some, and-then-some, join-words}
use Rattle.meson_lex.specs.declared.kinds.Kind.TheVariants as k
use Rattle.meson_edit.proofs.places.SameEnds.{cover}
use Rattle.meson_edit.proofs.places.Joined.{next, regrouped, alone, next-third, deeper, line-again}
use Rattle.meson_edit.proofs.places.Inside.{SpellsNode, SpellsOther, Inside, InHole, hole-part, part-holes, last-part, whole-part, holds, holds-block}
use Rattle.meson_edit.proofs.places.InExpressions.{third-of, second-of, expression-inside}

-- the tokens of a block behind its line end
line-words : (P : ℕ → List Token → Type 0) (ts : List Token) → (h : NewLine P ts) → words (h.token ∷ []) ≡ new_line ∷ []
line-words P ts h = ap (λ (κ : Kind). (κ, kept κ h.token.text) ∷ []) h.is

body_group : {A : Type 0} (a b : List A) (n : A) (x c : List A) → a ++ (b ++ ((n ∷ x) ++ c)) ≡ (a ++ (b ++ n ∷ [])) ++ (x ++ c)
body_group a b n x c = simp append_assoc

loop_group : {A : Type 0} (a b m e : List A) (n : A) (x c : List A) → a ++ (b ++ (m ++ (e ++ ((n ∷ x) ++ c)))) ≡ (a ++ (b ++ (m ++ (e ++ n ∷ [])))) ++ (x ++ c)
loop_group a b m e n x c = simp append_assoc

three : {A : Type 0} (a b c d : List A) → a ++ (b ++ (c ++ d)) ≡ (a ++ (b ++ c)) ++ d
three a b c d = simp append_assoc

-- ---- what another thing in the place of one is, where there is room for it

abbrev OtherBranches : Kind → ℕ → Branches Span → List Token → Type 0
OtherBranches word d z ts = branches_depth z ≤ d → HasBranch z × SpellsBranches z word d ts

abbrev OtherOtherwise : ℕ → Otherwise Span → List Token → Type 0
OtherOtherwise d z ts = otherwise_depth z ≤ d → SpellsOtherwise z d ts

abbrev OtherStatements : ℕ → Statements Span → List Token → Type 0
OtherStatements d z ts = statements_depth z ≤ d → SpellsStatements z d ts

-- ---- statements

branches-inside : (bs : Branches Span) (word : Kind) (d : ℕ) (ts : List Token) → ((x : List ℕ) → kept word x ≡ []) → SpellsBranches bs word d ts
    → Every (InHole (Branches Span) (OtherBranches word d) ts) (branches_children bs word)
branches-inside no_branches word d ts drops h = tt
branches-inside (branch e b more) word d ts drops h =
    let p = h.second in
    let q = p.second in
    let line = q.first in
    let sign = one-words word h.front drops h.first in
    let asked = expression-words e d p.front p.first in
    let body = new-line-words _ q.front _ line (block-words b d line.token.to line.rest line.second) in
    let rest = branches-words more k.WordElif d q.back (λ x. refl) q.second in (
      holds e (mark word) _ d ts h.front p.front p.back (second-of ts h.front h.back p.front p.back h.joined p.joined) sign
          (then-words _ _ p.back _ _ q body rest) p.first
          (λ y new ends sp room. let z = sp (omega (arith, room)) in (tt, next h.front (new ++ p.back) h.first (next new p.back z.1 q))),
      (
        holds-block b _ (branches_words more k.WordElif) d line.token.to ts (h.front ++ (p.front ++ line.token ∷ [])) line.rest q.back
            (h.joined ∙ ap (λ x. h.front ++ x) (p.joined ∙ ap (λ x. p.front ++ x) (q.joined ∙ ap (λ x. x ++ q.back) line.joined)) ∙ body_group h.front p.front line.token line.rest q.back)
            (join-words h.front (p.front ++ line.token ∷ []) (mark word) (expression_words e ++ new_line ∷ []) sign
            (join-words p.front (line.token ∷ []) (expression_words e) (new_line ∷ []) asked (line-words _ q.front line))) rest line.second
            (λ y new ends sp room.
            let z = sp (omega (arith, room)) in
            let all = next h.front _ h.first (next p.front _ p.first (next (line.token ∷ new) q.back (line-again line new z.1) q.second)) in
            (tt, regrouped _ _ (sym (body_group h.front p.front line.token new q.back)) all)),
        part-holes (OtherBranches k.WordElif d) _ (mark word ++ (expression_words e ++ (new_line ∷ block_words b))) [] (branch e b)
            ts (h.front ++ (p.front ++ q.front)) q.back []
            (last-part ts _ q.back (h.joined ∙ ap (λ x. h.front ++ x) (p.joined ∙ ap (λ x. p.front ++ x) q.joined) ∙ three h.front p.front q.front q.back))
            (join-words h.front (p.front ++ q.front) (mark word) (expression_words e ++ (new_line ∷ block_words b)) sign (join-words p.front q.front (expression_words e) (new_line ∷ block_words b) asked body)) refl
            (λ z new ends sp room.
            let w = sp (omega (arith, room)) in
            let all = next h.front _ h.first (next-third p.front q.front new p.first q.first w.1) in
            (tt, regrouped _ _ (append_assoc h.front (p.front ++ q.front) (new ++ [])) all))
            (branches_children more k.WordElif) (branches-inside more k.WordElif d q.back (λ x. refl) q.second),
      ),
    )

otherwise-inside : (o : Otherwise Span) (d : ℕ) (ts : List Token) → SpellsOtherwise o d ts
    → Every (InHole (Otherwise Span) (OtherOtherwise d) ts) (otherwise_children o)
otherwise-inside nothing_else d ts h = tt
otherwise-inside (otherwise b) d ts h =
    let line = h.second in (
      holds-block b (mark k.WordElse ++ new_line ∷ []) [] d line.token.to ts (h.front ++ line.token ∷ []) line.rest [] (third-of ts h.front h.back (line.token ∷ []) line.rest h.joined line.joined)
          (join-words h.front (line.token ∷ []) (mark k.WordElse) (new_line ∷ []) (one-words k.WordElse h.front (λ x. refl) h.first) (line-words _ h.back line))
          refl line.second
          (λ y new ends sp room.
          let z = sp room in
          let all = next h.front _ h.first (line-again line (new ++ []) (alone (SpellsBlock y d line.token.to) new z.1)) in
          regrouped _ _ (append_assoc h.front (line.token ∷ []) (new ++ [])) all),
      tt,
    )

pub statement-inside : (s : Statement Span) (d : ℕ) (ts : List Token) → SpellsStatement s d ts
    → Every (InHole (Statement Span) (SpellsOther of_statement s d 0) ts) (statement_children s)
statement-inside (evaluate e) d ts h =
    (holds e [] [] d ts [] ts [] (whole-part ts) refl refl h (λ y new ends sp room. let z = sp room in (tt, alone (SpellsExpression y d) new z.1)), tt)
statement-inside (assign s x a e) d ts h =
    let p = h.1 in
    let q = p.second in
    let parts = third-of ts p.front p.back q.front q.back p.joined q.joined in (
      holds e _ [] d ts (p.front ++ q.front) q.back [] parts
          (join-words p.front q.front ((k.Identifier, x.text) ∷ []) (mark (assignment_kind a)) (name-words x p.front p.first)
          (one-words (assignment_kind a) q.front (assignment-drops a) q.first)) refl q.second
          (λ y new ends sp room. let z = sp room in (tt, (cover _ new ends s ts _ [] parts h.0, next-third p.front q.front new p.first q.first z.1))),
      tt,
    )
statement-inside (selection s bs o) d ts h =
    let v = h.2 in
    let inner = v.inner in
    let p = v.spelled in
    let q = p.second in
    let other = otherwise-words o inner q.front q.first in
    let end = one-words k.WordEndif q.back (λ x. refl) q.second in
    let parts = second-of ts p.front p.back q.front q.back p.joined q.joined in
    every-append (InHole (Statement Span) (SpellsOther of_statement (selection s bs o) d 0) ts) _ _
    (part-holes (OtherBranches k.WordIf inner) _ [] (otherwise_words o ++ mark k.WordEndif) (λ x. selection s x o) ts [] p.front p.back p.joined
    refl (then-words _ _ p.back _ _ q other end)
    (λ z new ends sp room.
    let w = sp (omega (arith, room, v.less)) in
    (tt, (cover _ new ends s ts [] p.back p.joined h.0, w.0, deeper v _ (next new p.back w.1 q))))
    (branches_children bs k.WordIf) (branches-inside bs k.WordIf inner p.front (λ x. refl) p.first))
    (part-holes (OtherOtherwise inner) _ (branches_words bs k.WordIf) (mark k.WordEndif) (selection s bs) ts p.front q.front q.back parts
    (branches-words bs k.WordIf inner p.front (λ x. refl) p.first) end
    (λ z new ends sp room.
    let w = sp (omega (arith, room, v.less)) in
    (tt, (cover _ new ends s ts p.front q.back parts h.0, h.1, deeper v _ (next p.front (new ++ q.back) p.first (next new q.back w q.second)))))
    (otherwise_children o) (otherwise-inside o inner q.front q.first))
statement-inside (iteration s xs e b) d ts h =
    let p = h.1 in
    let q = p.second in
    let r = q.second in
    let v = r.second in
    let inner = v.inner in
    let t = v.spelled in
    let u = t.second in
    let line = u.first in
    let loop = one-words k.WordForeach p.front (λ x. refl) p.first in
    let names = names-words xs q.front q.first in
    let colon = one-words k.Colon r.front (λ x. refl) r.first in
    let items = expression-words e inner t.front t.first in
    let body = new-line-words _ u.front _ line (block-words b inner line.token.to line.rest line.second) in
    let end = one-words k.WordEndforeach u.back (λ x. refl) u.second in
    let head : ts ≡ p.front ++ (q.front ++ (r.front ++ r.back)) = p.joined ∙ ap (λ x. p.front ++ x) (q.joined ∙ ap (λ x. q.front ++ x) r.joined) in
    let over = head ∙ three p.front q.front r.front r.back ∙ ap (λ x. (p.front ++ (q.front ++ r.front)) ++ x) t.joined in
    let within =
    head ∙ ap (λ x. p.front ++ (q.front ++ (r.front ++ x))) (t.joined ∙ ap (λ x. t.front ++ x) (u.joined ∙ ap (λ x. x ++ u.back) line.joined))
    ∙ loop_group p.front q.front r.front t.front line.token line.rest u.back in (
      holds e (mark k.WordForeach ++ (names_words xs ++ mark k.Colon)) _ inner ts (p.front ++ (q.front ++ r.front)) t.front t.back over
          (join-words p.front (q.front ++ r.front) (mark k.WordForeach) (names_words xs ++ mark k.Colon) loop (join-words q.front r.front (names_words xs) (mark k.Colon) names colon))
          (then-words _ _ t.back _ _ u body end) t.first
          (λ y new ends sp room.
          let z = sp (omega (arith, room, v.less)) in
          let all = next p.front _ p.first (next q.front _ q.first (next r.front _ r.first (deeper v _ (next new t.back z.1 u)))) in
          (tt, (cover _ new ends s ts _ t.back over h.0, regrouped _ _ (sym (three p.front q.front r.front (new ++ t.back))) all))),
      (
        holds-block b (mark k.WordForeach ++ (names_words xs ++ (mark k.Colon ++ (expression_words e ++ new_line ∷ [])))) (mark k.WordEndforeach) inner line.token.to ts
            (p.front ++ (q.front ++ (r.front ++ (t.front ++ line.token ∷ [])))) line.rest u.back within
            (join-words p.front (q.front ++ (r.front ++ (t.front ++ line.token ∷ []))) (mark k.WordForeach) (names_words xs ++ (mark k.Colon ++ (expression_words e ++ new_line ∷ []))) loop
            (join-words q.front (r.front ++ (t.front ++ line.token ∷ [])) (names_words xs) (mark k.Colon ++ (expression_words e ++ new_line ∷ [])) names
            (join-words r.front (t.front ++ line.token ∷ []) (mark k.Colon) (expression_words e ++ new_line ∷ []) colon
            (join-words t.front (line.token ∷ []) (expression_words e) (new_line ∷ []) items (line-words _ u.front line))))) end line.second
            (λ y new ends sp room.
            let z = sp (omega (arith, room, v.less)) in
            let last = next t.front _ t.first (next (line.token ∷ new) u.back (line-again line new z.1) u.second) in
            let all = next p.front _ p.first (next q.front _ q.first (next r.front _ r.first (deeper v _ last))) in
            (tt, (cover _ new ends s ts _ u.back within h.0, regrouped _ _ (sym (loop_group p.front q.front r.front t.front line.token new u.back)) all))),
        tt,
      ),
    )
statement-inside (breaks s) d ts h = tt
statement-inside (continues s) d ts h = tt

statements-inside : (list : Statements Span) (d : ℕ) (ts : List Token) → SpellsStatements list d ts
    → Every (InHole (Statements Span) (OtherStatements d) ts) (statements_children list)
statements-inside no_statements d ts h = tt
statements-inside (statement s more) d ts h =
    let q = h.second in
    let line = one-words k.LineEnd q.front (λ x. refl) q.first in (
      record {
        inside = record {
          depth = d;
          last = 0;
          front = [];
          own = h.front;
          back = h.back;
          parts = h.joined;
          is_front = refl;
          is_back = then-words _ _ h.back _ _ q line (statements-words more d q.back q.second);
          spelled = h.first;
        };
        swap = λ y new ends sp room. let z = sp (omega (arith, room)) in next new h.back z.1 q;
      },
      part-holes (OtherStatements d) _ (statement_words s ++ new_line ∷ []) [] (statement s) ts (h.front ++ q.front) q.back []
          (third-of ts h.front h.back q.front q.back h.joined q.joined)
          (join-words h.front q.front (statement_words s) (new_line ∷ []) (statement-words s d h.front h.first) line) refl
          (λ z new ends sp room. next-third h.front q.front new h.first q.first (sp (omega (arith, room))))
          (statements_children more) (statements-inside more d q.back q.second),
    )

block-inside : (b : Block Span) (d last : ℕ) (ts : List Token) → SpellsBlock b d last ts
    → Every (InHole (Block Span) (SpellsOther of_block b d last) ts) (block_children b)
block-inside (block s list) d last ts h =
    part-holes (OtherStatements d) _ [] [] (block s) ts [] ts [] (whole-part ts) refl refl
    (λ z new ends sp room. (tt, (ends.block last s [] [] (subst (CoversBlock last s) (whole-part ts) h.0), alone (SpellsStatements z d) new (sp room))))
    (statements_children list) (statements-inside list d ts h.1)

-- ---- nodes

abbrev HoldsNode : (sort : Sort) → Node sort Span → ℕ → ℕ → List Token → Hole Span (Node sort Span) → Type 0
HoldsNode sort x d last = InHole (Node sort Span) (SpellsOther sort x d last)

children-inside : (sort : Sort) (x : Node sort Span) (d last : ℕ) (ts : List Token) → SpellsNode sort x d last ts
    → Every (HoldsNode sort x d last ts) (children Span sort x)
children-inside of_expression e d last ts h = expression-inside e d ts h
children-inside of_statement s d last ts h = statement-inside s d ts h
children-inside of_block b d last ts h = block-inside b d last ts h

child-inside : (sort : Sort) (x : Node sort Span) (n d last : ℕ) (ts : List Token) (h : Hole Span (Node sort Span)) → nth_hole Span sort x n ≡ Some h
    → SpellsNode sort x d last ts
    → HoldsNode sort x d last ts h
child-inside sort x n d last ts h is sp = every-nth (HoldsNode sort x d last ts) (children Span sort x) n h (children-inside sort x d last ts sp) is

-- the tokens of the node that a path names, and another node there
pub reach-holds : (sort : Sort) (x : Node sort Span) (path : List ℕ) (d last : ℕ) (ts : List Token) (h : Hole Span (Node sort Span))
    → reach Span sort x path ≡ Some h
    → SpellsNode sort x d last ts → InHole (Node sort Span) (SpellsOther sort x d last) ts h
reach-holds sort x [] d last ts h is sp =
    subst (HoldsNode sort x d last ts) (some-injective _ _ is) (record {
      inside = record { depth = d; last = last; front = []; own = ts; back = []; parts = whole-part ts; is_front = refl; is_back = refl; spelled = sp };
      swap = λ y new ends other. alone (SpellsOther sort x d last y) new other;
    })
reach-holds sort x (n ∷ path) d last ts h is sp =
    let o = and-then-some (λ g. option_map (around g.before g.behind g.back) (reach Span g.sort g.inside path)) (nth_hole Span sort x n) h is in
    let g = o.0 in
    let m = map-some (around g.before g.behind g.back) (reach Span g.sort g.inside path) h o.2 in
    let u = child-inside sort x n d last ts g o.1 sp in
    let i = u.inside in
    let v = reach-holds g.sort g.inside path i.depth i.last i.own m.0 m.1 i.spelled in
    subst (HoldsNode sort x d last ts) m.2
    (hole-part (SpellsOther g.sort g.inside i.depth i.last) (SpellsOther sort x d last) g.before g.behind g.back
    ts i.front i.own i.back i.parts i.is_front i.is_back u.swap m.0 v)

pub reach-inside : (sort : Sort) (x : Node sort Span) (path : List ℕ) (d last : ℕ) (ts : List Token) (h : Hole Span (Node sort Span)) → reach Span sort x path ≡ Some h
    → SpellsNode sort x d last ts → Inside h.sort h.inside h.before h.behind ts
reach-inside sort x path d last ts h is sp = (reach-holds sort x path d last ts h is sp).inside
