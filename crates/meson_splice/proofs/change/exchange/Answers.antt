use Rattle.std.proofs.Common.{◌≡◌, ◌∙◌, ◌∷◌, ◌++◌, [], List, ℕ, ap, sym, true}
use Rattle.meson_splice.specs.Files.{bytes_at}
use Rattle.meson_splice.specs.Saved.{bytes_put_back, bytes_saved}
use Rattle.meson_splice.specs.declared.change.SavedBytes.{SavedBytes}
use Rattle.meson_splice.proofs.Saving.{put_back-first, put_back-again}
use Rattle.meson_splice.proofs.change.exchange.Goals as goal

pub returns-then-is_saved-clause-saved : goal.returns-then-is_saved-clause-saved
returns-then-is_saved-clause-saved c =
    let there : bytes_saved c.args.place c.args.saved.now.items ≡ true = sym (c.if-is_saved.ensures ∙ ap (bytes_saved c.args.place) c.deref.ensures.value) in
    ap (bytes_put_back c.args.saved.now.items) c.exchange.ensures.files
    ∙ put_back-again c.args.saved.now.items c.args.files.now c.args.place c.args.bytes there

pub returns-clause-saved : goal.returns-clause-saved
returns-clause-saved c =
    let files = c.args.files.now in
    let saved = c.args.saved.now.items in
    let place = c.args.place in
    let item : List ℕ → SavedBytes = λ b. record { place = place; bytes = b } in
    ap (λ l. bytes_put_back l c.exchange-bytes.new.self) (c.push_reserved.ensures.items ∙ ap (λ l. l ++ item c.exchange-bytes.result ∷ []) c.in_ok-reserve.ensures.items)
    ∙ ap (λ b. bytes_put_back (saved ++ item b ∷ []) c.exchange-bytes.new.self) c.exchange-bytes.ensures.old
    ∙ ap (bytes_put_back (saved ++ item (bytes_at place files) ∷ [])) c.exchange-bytes.ensures.files
    ∙ put_back-first saved files place c.args.bytes
