-- How many digits a number has, by its size: the four lemmas, as one list for the check.
use Rattle.digits.proofs.Decimals.{one_digit, two_digits, three_digits, four_digits}

pub ruleset lengths = (one_digit, two_digits, three_digits, four_digits)
