mod EnterBack
mod Found
