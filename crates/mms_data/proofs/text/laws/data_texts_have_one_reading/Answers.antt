use Rattle.mms_data.proofs.OfText.TextReading.{one_text_reading}
use Rattle.mms_data.proofs.text.laws.data_texts_have_one_reading.Goals as goal

pub returns : goal.returns
returns c = one_text_reading
