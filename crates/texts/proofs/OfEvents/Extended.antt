-- What is appended piece by piece begins with what stood before.
use Rattle.plain_text.proofs.Extended.{Extends-append}

pub ruleset extended = (Extends-append)
