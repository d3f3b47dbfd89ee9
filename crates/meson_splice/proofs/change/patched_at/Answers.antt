use Rattle.std.proofs.Common.{◌≡◌, ◌∙◌, ◌<◌, length, ap, subst, sym, true}
use Rattle.meson_splice.specs.Files.{with_bytes}
use Rattle.meson_splice.specs.Saved.{bytes_put_back, bytes_saved}
use Rattle.meson_splice.proofs.Leading.{length-with_bytes}
use Rattle.meson_splice.proofs.Saving.{put_back-again, with_bytes-twice}
use Rattle.meson_splice.proofs.change.patched_at.Goals as goal

pub returns-in_err-bytes-clause-saved : goal.returns-in_err-bytes-clause-saved
returns-in_err-bytes-clause-saved c =
    let there : bytes_saved c.in_ok-place.place c.args.saved.now ≡ true = sym c.is_saved.ensures ∙ c.if-is_saved.true in
    ap (bytes_put_back c.args.saved.now) c.exchange-own.ensures.files ∙ put_back-again c.args.saved.now c.args.files.now c.in_ok-place.place c.of.result there

pub returns-then-is_saved-clause-place : goal.returns-then-is_saved-clause-place
returns-then-is_saved-clause-place c =
    let as_many = ap length c.exchange-own.ensures.files ∙ length-with_bytes c.args.files.now c.in_ok-place.place c.of.result in
    (c.in_ok-place.ensures.place.0, subst (λ n. c.in_ok-place.place < n) (sym as_many) c.in_ok-place.ensures.place.1)

pub returns-then-is_saved-clause-others : goal.returns-then-is_saved-clause-others
returns-then-is_saved-clause-others c = λ b.
    ap (with_bytes c.in_ok-place.place b) c.exchange-own.ensures.files ∙ with_bytes-twice c.args.files.now c.in_ok-place.place c.of.result b

pub returns-then-is_saved-clause-saved : goal.returns-then-is_saved-clause-saved
returns-then-is_saved-clause-saved c =
    let there : bytes_saved c.in_ok-place.place c.args.saved.now ≡ true = sym c.is_saved.ensures ∙ c.if-is_saved.true in
    ap (bytes_put_back c.args.saved.now) c.exchange-own.ensures.files ∙ put_back-again c.args.saved.now c.args.files.now c.in_ok-place.place c.of.result there
