mod DividingLaws
mod DivisionLaws
mod OutcomeLaws
mod TextLaws
