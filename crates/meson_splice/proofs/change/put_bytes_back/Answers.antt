use Rattle.std.proofs.Common.{◌∙◌, ap, sym}
use Rattle.meson_splice.specs.Saved.{bytes_put_back}
use Rattle.meson_splice.proofs.Saving.{put_back-push}
use Rattle.meson_splice.proofs.change.put_bytes_back.Goals as goal

pub loop-last-preserved : goal.loop-last-preserved
loop-last-preserved c =
    ap (bytes_put_back c.pop.new.self.items) c.restore.ensures
    ∙ sym (put_back-push c.pop.new.self.items c.in-Some.last c.loop-last.files)
    ∙ ap (λ l. bytes_put_back l c.loop-last.files) (sym c.in-Some.ensures.items)
    ∙ c.loop-last.invariant
