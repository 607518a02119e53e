use Rattle.std.proofs.Common.{◌≡◌, string_bytes, refl, sym, ◌∙◌}
use Rattle.std.specs.HashMap.{get_by_text}
use Rattle.std.proofs.lemmas.Map.Text.{hash_map_updates_text}
use Rattle.std.proofs.lemmas.Result.{IfOk-at_ok}
use Rattle.udb_refute.proofs.VariableLaws.{put-text, same-ok}
use Rattle.udb_refute.proofs.variables.insert.Goals as goal

pub returns : goal.returns
returns c = λ q.
    let key : string_bytes c.in_ok-name.name ≡ c.args.name.now = IfOk-at_ok (λ s. string_bytes s ≡ c.as_str.result.now) c.in_ok-name.ensures.0 c.from_str.ensures.ok ∙ c.as_str.ensures in
    put-text c.args.name.now (string_bytes c.in_ok-name.name) q c.args.place c.args.alone c.in_ok-name.alone (get_by_text c.args.all.now q) (get_by_text c.insert.new.self q) key (sym (same-ok c.args.alone c.in_ok-name.alone _ refl c.in_ok-name.ensures.1))
    (hash_map_updates_text (string_bytes c.in_ok-name.name) c.args.all.now c.insert.new.self _ c.in_ok-insert.ensures.updates q)
