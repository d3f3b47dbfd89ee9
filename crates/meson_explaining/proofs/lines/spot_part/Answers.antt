use Rattle.std.proofs.Common.{◌≡◌, ℕ, ◌+◌, List, length, take, ap, ◌∙◌}
use Rattle.std.specs.Prelude.{◌==◌, filter}
use Rattle.std.proofs.lemmas.Result.{IfOk-weaker}
use Rattle.meson_explaining.specs.Lines.{begins_character, last_line, place_words}
use Rattle.meson_explaining.proofs.lines.spot_part.Goals as goal

same_words : (f g : List ℕ) (l m i j : ℕ) → f ≡ g → l ≡ m → i ≡ j → place_words f l i ≡ place_words g m j
same_words f g l m i j file line column = ap (λ x. place_words x l i) file ∙ ap (λ n. place_words g n i) line ∙ ap (place_words g m) column

pub returns : goal.returns
returns c =
    let at = c.args.spot.now.at in
    let before = c.before-before.ensures ∙ ap (take at) c.file_bytes-bytes.ensures in
    let line = ap (λ n. n + 1) (c.line_feeds.ensures.count ∙ ap (λ bytes. length (filter (λ b. b == 10) bytes)) before) in
    let column = ap (λ n. n + 1) (c.last_line_len.ensures.count ∙ ap (λ bytes. length (filter begins_character (last_line bytes))) before) in
    IfOk-weaker c.place_words.result _ _ (λ text is. is ∙ same_words _ _ _ _ _ _ c.file_name-file.ensures line column) c.place_words.ensures
