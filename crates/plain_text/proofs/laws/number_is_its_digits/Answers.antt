use Rattle.plain_text.proofs.Decimal.{number_in-decimal}
use Rattle.plain_text.proofs.laws.number_is_its_digits.Goals as goal

pub returns : goal.returns
returns c = λ word n small. number_in-decimal word n small
