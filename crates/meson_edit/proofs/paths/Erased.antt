-- A path names the same in a tree and in the tree without its spans.
use Rattle.meson_edit.proofs.Words.{option_map, ◌≡◌, ℕ, List, Option, Some, refl, ap, ap₂, subst, ◌∙◌, Span, Sort, of_expression, of_statement, of_block, Node}
use Rattle.meson_edit.proofs.Words.{Hole, reach, block_of, ListAt, list_at, Nowhere, Block, File, erase, erase_block, erase_listing, BlockAt, block_of_node}
use Rattle.meson_edit.proofs.Words.{words_around, erase_node, erase_front, list_front, erase_list_front, NodesErase, ListsErase, BlocksErase, each_node}
use Rattle.meson_edit.proofs.Words.{MapsHole, maps, MapsList, InBoth, neither, both, each_block}
use Rattle.meson_edit.proofs.kept.Each.{then-both, nodes-map}
use Rattle.meson_edit.proofs.kept.EachNothing.{nothing, expression-nothing, statement-nothing, block-nothing, listing-nothing, file-nothing, lists-without}

-- what is found in both shows the same
shown : {A B C : Type 0} {R : A → B → Type 0} (p : A → C) (q : B → C) → ((x : A) (y : B) → R x y → q y ≡ p x) → (o : Option A) (u : Option B) → InBoth R o u
    → option_map q u ≡ option_map p o
shown p q same o u neither = refl
shown p q same o u (both x y r) = ap Some (same x y r)

-- ---- nodes

node-nothing : (sort : Sort) (x : Node sort Span) → each_node nothing sort x ≡ erase_node Span sort x
node-nothing of_expression e = expression-nothing e
node-nothing of_statement s = statement-nothing s
node-nothing of_block b = block-nothing b

-- the holes of a path in both trees
holes : (f : File Span) (path : List ℕ)
    → InBoth (MapsHole nothing (each_block nothing)) (reach Span of_block (block_of f) path) (reach Nowhere of_block (block_of (erase f)) path)
holes f path =
    subst (λ t. InBoth (MapsHole nothing (each_block nothing)) (reach Span of_block (block_of f) path) (reach Nowhere of_block (block_of t) path))
    (file-nothing f) (nodes-map nothing f path)

same-front : (x : Hole Span (Block Span)) (y : Hole Nowhere (Block Nowhere)) → MapsHole nothing (each_block nothing) x y → words_around y ≡ erase_front (words_around x)
same-front x y (maps sort e before before' behind behind' back back' p q agree) =
    ap₂ (λ b c. record { sort = sort; inside = each_node nothing sort e; before = b; behind = c }) p q
    ∙ ap (λ n. record { sort = sort; inside = n; before = before; behind = behind }) (node-nothing sort e)

pub nodes-erase : NodesErase
nodes-erase f path =
    shown (λ h. erase_front (words_around h)) words_around same-front (reach Span of_block (block_of f) path) (reach Nowhere of_block (block_of (erase f)) path)
    (holes f path)

-- ---- lists

same-list : (p : ListAt Span) (r : ListAt Nowhere) → MapsList nothing p r → list_front r ≡ erase_list_front (list_front p)
same-list p r m =
    ap₂ (λ l b. record { list = l; bracket = b; before = r.before; behind = r.behind }) (m.list ∙ listing-nothing p.list) m.bracket
    ∙ ap₂ (λ b c. record { list = erase_listing p.list; bracket = p.bracket; before = b; behind = c }) m.before m.behind

pub lists-erase : ListsErase
lists-erase f path = shown (λ p. erase_list_front (list_front p)) list_front same-list (list_at f path) (list_at (erase f) path) (lists-without f path)

-- ---- blocks

-- a block in both trees
abbrev SameBlock : BlockAt Span → BlockAt Nowhere → Type 0
SameBlock b c = c.inside ≡ erase_block b.inside

blocks-of : (f : File Span) (x : Hole Span (Block Span)) (y : Hole Nowhere (Block Nowhere)) → MapsHole nothing (each_block nothing) x y
    → InBoth SameBlock (block_of_node Span x.sort x.inside f x.back) (block_of_node Nowhere y.sort y.inside (erase f) y.back)
blocks-of f x y (maps of_expression e before before' behind behind' back back' p q agree) = neither
blocks-of f x y (maps of_statement s before before' behind behind' back back' p q agree) = neither
blocks-of f x y (maps of_block b before before' behind behind' back back' p q agree) = both _ _ (block-nothing b)

pub blocks-erase : BlocksErase
blocks-erase f path =
    shown (λ b. erase_block b.inside) (λ b. b.inside) (λ b c same. same) _ _
    (then-both _ _ (blocks-of f) (reach Span of_block (block_of f) path) (reach Nowhere of_block (block_of (erase f)) path) (holes f path))
