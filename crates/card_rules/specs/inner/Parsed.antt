-- What the private function that tells a header says of the parser's answer.
use Rattle.std.specs.Prelude.{Result}
use Rattle.base_rules.specs.Answer.{Answer}
use Rattle.base_rules.specs.Refusal.{told}
use Rattle.base_rules.specs.declared.Refusal.{Refusal}
use Rattle.header_rules.specs.declared.Header.{Header}
use Rattle.card_rules.specs.Headers.{header_told}

-- the answer of the parser with what is told of it
unfoldable pub parsed_told : Result Header Refusal → Answer
parsed_told r = told header_told r
