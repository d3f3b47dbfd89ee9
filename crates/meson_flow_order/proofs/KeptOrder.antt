-- The laws, from what each step keeps.
use Rattle.std.proofs.Common.{◌≡◌, ◌<◌, ◌≤◌, ℕ, List, [], ◌∷◌, ◌++◌, length, length-append, map, take, sym, ap, subst, ◌∙◌, arith}
use Rattle.std.specs.Prelude.{⊤, Bool, true, false, if◌then◌else◌, None, Some}
use Rattle.std.proofs.Math.Seq.{take-append_seam}
use Rattle.std.proofs.lemmas.Bool.{leb-true}
use Rattle.meson_lex.specs.declared.kinds.Span.{Span}
use Rattle.meson_syntax.specs.Tree.{Block}
use Rattle.meson_calls.specs.declared.call.CallRef.{CallRef}
use Rattle.meson_calls.specs.Parts.{parts, parts_of_block, parts_of_statement}
use Rattle.meson_calls.specs.Project.{BuildFile, Project}
use Rattle.meson_following.specs.Effects.{effect_of}
use Rattle.meson_following.specs.Flows.{begun, flow_block, flow_file}
use Rattle.meson_following.specs.Makers.{Known, Made, added, joined, limited, made_by, made_unknown, max_makers, renewed, touched}
use Rattle.meson_flow_order.specs.Laws.{AddedKeeps, AssignedKeeps, BlocksAddTheSame, BlocksKeep, EitherKeeps, FilesKeep, LoopsHold, OneMoreIsLeftOut, StatementsKeep, StayGood, ThenKeeps, TouchedIsAbove, TouchedKeeps}
use Rattle.meson_flow_order.specs.Order.{AreFlows, IsBelow, IsBelowAsSet, IsBelowWith, IsGoodKnown}
use Rattle.meson_flow_order.proofs.Below.{below_itself, first_below, good_joined, is_cut, joined_keeps}
use Rattle.meson_flow_order.proofs.KeptFlows.{any_makes, begun_kept, block_kept, either_kept, file_kept, statement_kept, then_kept}
use Rattle.meson_flow_order.proofs.Steps.{good_alone, good_added, good_unknown, touched_is, with_added, with_kept}
use Rattle.meson_flow_order.proofs.Turns.{as_set_kept, turns_hold, with_more}

pub touched_above : TouchedIsAbove
touched_above k good = subst (IsBelow k) (sym (touched_is k good)) (first_below k (Some made_unknown))

pub stay_good : StayGood
stay_good m k l good_k good_l =
    (good_joined k l good_k good_l, subst IsGoodKnown (sym (touched_is k good_k)) (good_joined k (Some made_unknown) good_k good_unknown), go m.adds)
  where
    go : (b : Bool) → IsGoodKnown (if b then Some (added m k) else Some (made_by m))
    go true = good_added m k good_k
    go false = good_alone m

pub touched_keeps : TouchedKeeps
touched_keeps k l good_k good_l below =
    subst (λ v. IsBelow v (touched l)) (sym (touched_is k good_k))
    (subst (IsBelow (joined k (Some made_unknown))) (sym (touched_is l good_l))
    (joined_keeps k (Some made_unknown) l (Some made_unknown) good_k good_unknown good_l good_unknown below (below_itself (Some made_unknown))))

pub assigned_keeps : AssignedKeeps
assigned_keeps m k l under = as_set_kept.assigns m k l tt under

pub added_keeps : AddedKeeps
added_keeps m k l good_k good_l below =
    (with_added None tt m (Some k) (Some l) record { below = below; unset = λ is. absurd (let no : ⊥ = cc in no); lower = good_k; upper = good_l }).below

pub one_more_left_out : OneMoreIsLeftOut
one_more_left_out m k good full off =
    let most : length k.makers ≤ max_makers = good.few in
    let least : max_makers ≤ length k.makers = leb-true max_makers (length k.makers) full in
    let long : max_makers ≡ length k.makers = omega (arith, most, least) in
    let more : Made Span = record { makers = k.makers ++ m ∷ []; unknown = k.unknown } in
    let with_it : added m (Some k) ≡ limited more =
    ap (λ b. limited (record { makers = if b then map (renewed m) k.makers else k.makers ++ m ∷ []; unknown = k.unknown })) off in
    let longer : max_makers < length (k.makers ++ m ∷ []) = let e = length-append k.makers (m ∷ []) in omega (arith, e, long) in
    let first : take max_makers (k.makers ++ m ∷ []) ≡ k.makers = ap (λ n. take n (k.makers ++ m ∷ [])) long ∙ take-append_seam k.makers (m ∷ []) in
    with_it ∙ is_cut more longer ∙ ap (λ ms. record { makers = ms; unknown = true }) first

pub either_keeps : EitherKeeps
either_keeps = either_kept (λ m. ⊤) IsBelowAsSet as_set_kept

pub then_keeps : ThenKeeps
then_keeps = then_kept (λ m. ⊤) IsBelowAsSet as_set_kept

pub statements_keep : StatementsKeep
statements_keep x effect enter enters q s = statement_kept (λ m. ⊤) IsBelowAsSet as_set_kept x effect enter enters q s (any_makes x (parts_of_statement q s))

pub blocks_keep : BlocksKeep
blocks_keep x effect enter enters q b = block_kept (λ m. ⊤) IsBelowAsSet as_set_kept x effect enter enters q b (any_makes x (parts_of_block q b))

pub files_keep : FilesKeep
files_keep p x = file_kept (λ m. ⊤) IsBelowAsSet as_set_kept p x (any_makes x (parts p))

blocks_with : (p : Project Span) (x : List ℕ) (f : BuildFile Span) (left : ℕ) (q : CallRef) (b : Block Span) (e k l : Known Span) → IsGoodKnown e → IsBelowWith e k l
    → (let flow = flow_block x (effect_of p x f) (flow_file p x left) q b in AreFlows (IsBelowWith e) (flow k) (flow l))
blocks_with p x f left q b e k l good under =
    let steps = with_kept e good in
    block_kept (λ m. ⊤) (IsBelowWith e) steps x (effect_of p x f) (flow_file p x left) (file_kept (λ m. ⊤) (IsBelowWith e) steps p x (any_makes x (parts p)) left) q b (any_makes x (parts_of_block q b)) k l under

pub blocks_add_the_same : BlocksAddTheSame
blocks_add_the_same p x f left q b k more good_k good_more = blocks_with p x f left q b more (joined k more) k good_more (with_more k more good_k good_more)

pub loops_hold : LoopsHold
loops_hold p x f left q b named k good =
    turns_hold (λ now. flow_block x (effect_of p x f) (flow_file p x left) q b (begun named now))
    (λ e k l good under. blocks_with p x f left q b e (begun named k) (begun named l) good (begun_kept (λ m. ⊤) (IsBelowWith e) (with_kept e good) named k l under)) k good
