mod Orders
mod Order
