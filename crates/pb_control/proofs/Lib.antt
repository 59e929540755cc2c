pub mod BudgetLemmas
