use Rattle.std.proofs.Common.{◌++◌, ◌∷◌, [], List, ℕ, ap, sym, ◌∙◌}
use Rattle.std.specs.Prelude.{encode_utf8}
use Rattle.std.specs.List.{flat_map}
use Rattle.std.proofs.lemmas.Iterator.{YieldsList-from_chars}
use Rattle.std.proofs.lemmas.Iterator.Consumers.{YieldsList-end}
use Rattle.udb_spec.specs.ProofText.{json_byte}
use Rattle.udb_full.proofs.JsonLemmas.{one_more_letter, all_letters}
use Rattle.udb_full.proofs.printing.json_text.Goals as goal

pub loop-letter-preserved : goal.loop-letter-preserved
loop-letter-preserved c =
    c.in_ok-push_json_letter.ensures
    ∙ (ap (λ (text : List ℕ). text ++ flat_map json_byte (encode_utf8 c.in-Some.letter)) c.loop-letter.invariant
    ∙ ap (λ (text : List ℕ). 34 ∷ text) (sym (one_more_letter c.loop-letter.yielded c.in-Some.letter)))

pub returns : goal.returns
returns c =
    let t = YieldsList-end (YieldsList-from_chars c.args.word.now c.utf8.word cc) c.loop-letter.yielded _ c.loop-letter.yielded_by _ _ c.in-None.is c.next.ensures.steps in
    c.in_ok-push_str.ensures
    ∙ (ap (λ (text : List ℕ). text ++ 34 ∷ []) c.loop-letter.invariant
    ∙ ap (λ (text : List ℕ). 34 ∷ text ++ 34 ∷ []) (all_letters c.args.word.now c.loop-letter.yielded c.utf8.word t.0))
