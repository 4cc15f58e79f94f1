use Rattle.mms_data.proofs.OfTypes.SameShapeTexts.{same_text}
use Rattle.mms_data.proofs.types.laws.shapes_have_texts.Goals as goal

pub returns : goal.returns
returns c = same_text
