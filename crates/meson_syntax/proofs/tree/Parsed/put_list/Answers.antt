use Rattle.std.proofs.Common.{◌≡◌, ◌∙◌, List, [], ℕ, None, Option, Some, ap, refl, sym}
use Rattle.meson_lex.specs.declared.kinds.Span.{Span}
use Rattle.meson_syntax.specs.Codes.{code_file}
use Rattle.meson_syntax.specs.ListPut.{put_there}
use Rattle.meson_syntax.specs.Tree.{Listing}
use Rattle.meson_syntax.specs.declared.tree.Parsed.{Parsed}
use Rattle.meson_syntax.specs.Paths.{ListAt, list_at, of_block, with_block}
use Rattle.meson_syntax.specs.inside.Putting.{put_in}
use Rattle.meson_syntax.specs.View.{block_view, list_view, view}
use Rattle.meson_syntax.proofs.ToldFiles.{file_told}
use Rattle.meson_syntax.proofs.PutFiles.{list-put, none-put, told}
use Rattle.meson_syntax.proofs.tree.Parsed.put_list.Goals as goal
use Rattle.meson_syntax.proofs.tree.Parsed.put_list.Goals.{After-put_in_block}

-- the list that stands there, and the block
stands : (c : After-put_in_block) (source : List ℕ) → (list_view source c.put_in_block.new.list, block_view source c.put_in_block.new.block)
    ≡ put_in Span of_block (block_view source c.args.self.now.block) c.args.path.now.steps (list_view source c.args.list)
stands c source = c.put_in_block.ensures source
    ∙ ap (λ steps. put_in Span of_block (block_view source c.args.self.now.block) steps (list_view source c.args.list)) c.get.ensures

pub returns-clause-put : goal.returns-clause-put
returns-clause-put c = λ source p is.
    let f = view source c.args.self.now in
    ap (λ q. q.1) (ap (told Span (list_view source c.args.list) f) (stands c source)
    ∙ list-put Span (list_view source c.args.list) f c.args.path.now.steps p is)

pub returns-clause-gives : goal.returns-clause-gives
returns-clause-gives c = λ source p is.
    let f = view source c.args.self.now in
    ap (λ q. q.0) (ap (told Span (list_view source c.args.list) f) (stands c source)
    ∙ list-put Span (list_view source c.args.list) f c.args.path.now.steps p is)

pub returns-clause-stays : goal.returns-clause-stays
returns-clause-stays c = λ source is.
    let f = view source c.args.self.now in
    ap (λ q. with_block f q.1) (stands c source ∙ none-put Span (list_view source c.args.list) f c.args.path.now.steps is)

pub returns-clause-returns : goal.returns-clause-returns
returns-clause-returns c = λ source is.
    let f = view source c.args.self.now in
    ap (λ q. q.0) (stands c source ∙ none-put Span (list_view source c.args.list) f c.args.path.now.steps is)

looks : (t u : Parsed) (l : Listing Span) (o : Option (ListAt Span)) → ((p : ListAt Span) → o ≡ Some p → view [] u ≡ p.back l) → (o ≡ None → view [] u ≡ view [] t) → view [] u ≡ put_there o l (view [] t)
looks t u l (Some p) put stays = put p refl
looks t u l None put stays = stays refl

pub returns-clause-is : goal.returns-clause-is
returns-clause-is c =
    let t = c.args.self.now in
    let u : Parsed = record { block = c.put_in_block.new.block; span = t.span } in
    sym (file_told [] u) ∙ ap code_file (looks t u (list_view [] c.args.list) (list_at (view [] t) c.args.path.now.steps) (returns-clause-put c []) (returns-clause-stays c []))
